-- The parts of an envelope's body by their offsets.
use Rattle.std.specs.Prelude.{◌≡◌, List, [], ℕ, ◌<◌, length, get_or, drop}
use Rattle.definition.specs.Bytes.{numbers}
use Rattle.definition.specs.Envelope.{parts_from}

-- the offset of a part, or the body's end behind the last one
unfoldable pub mark_at : (body : List ℕ) (count i : ℕ) → ℕ
mark_at body count i = get_or (numbers count (drop 2 body)) i (length body)

-- a part's bytes, fewer than the whole body's
pub record PartOf (body : List ℕ) (count i : ℕ) (r : List ℕ) : Type 0 where
  pub is : r ≡ get_or (parts_from body (numbers count (drop 2 body))) i []
  pub shorter : length r < length body
