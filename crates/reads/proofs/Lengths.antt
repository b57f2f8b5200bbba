-- Once a path is resolved, no read minds the lengths of the array that is still open.
-- Assumes nothing.
use mathlib.Core.Path.{◌≡◌, refl}
use mathlib.Core.List.{List, []}
use Prim.Native.Nat.{ℕ}
use Rattle.definition.specs.Tables.{Row}
use Rattle.definition.specs.Read.{selection, ask, read_at, ReadFields, fields, short, read_fields, read_by, read_reply}
use Rattle.model.specs.Tables.{target_of}
use Rattle.model.specs.declared.Target.{Target}

module _ (structures : List Row) (memory : List ℕ) (service : ℕ) (g : Target) (lengths : List ℕ) (limit : ℕ) where
  by_any_lengths : (wanted : ReadFields)
      → read_by structures memory service (target_of g lengths) wanted limit ≡ read_by structures memory service (target_of g []) wanted limit
  unfolding read_at ask selection
  by_any_lengths (fields elements offset) = refl
  by_any_lengths short = refl

  pub read_any_lengths : (body : List ℕ)
      → read_reply structures memory service (target_of g lengths) body limit ≡ read_reply structures memory service (target_of g []) body limit
  unfolding read_reply
  read_any_lengths body = by_any_lengths (read_fields service body)
