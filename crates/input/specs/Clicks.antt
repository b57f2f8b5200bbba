-- Document 02, P13: the requests of masked writes in a row by their bytes, and two of them joined into one request.
use Rattle.std.specs.Prelude.{◌≡◌, Bool, true, List, ◌++◌, ℕ, ◌+◌, ◌*◌, eqb, length, get_or, take, Option, Some, None}
use Rattle.laws.specs.Pick.{pick, ◌&◌}
use Rattle.laws.specs.Put.{put}
use Rattle.laws.specs.Zip.{agree}
use Rattle.definition.specs.Bytes.{u16_at, part}
use Rattle.definition.specs.Segment.{Segment}
use Rattle.definition.specs.Joined.{Masks, pair, join}
use Rattle.definition.specs.Promises.{Masking}

-- behind the service, the number of words, the path and the size
abbrev pub mask_start : List ℕ → ℕ
mask_start s = 4 + 2 * get_or s 1 0

abbrev pub mask_size : List ℕ → ℕ
mask_size s = u16_at s (2 + 2 * get_or s 1 0)

-- 4E with as many mask bytes as its size asks, and nothing behind them
unfoldable pub is_masked_write : List ℕ → Bool
is_masked_write s = eqb (get_or s 0 0) 0x4E & eqb (length s) (mask_start s + 2 * mask_size s)

-- where its masks begin
abbrev pub found_masks : List ℕ → Option ℕ
found_masks s = pick (is_masked_write s) (Some (mask_start s)) None

-- the masks that it carries
abbrev pub masks_at : List ℕ → (at size : ℕ) → Masks
masks_at s at size = pair (part s at size) (part s (at + size) size)

-- as long, and with the same bytes before the masks: one path and one size
unfoldable pub joins : (row next : List ℕ) → Bool
joins row next = is_masked_write row & eqb (length next) (length row) & agree eqb (take (mask_start row) row) (take (mask_start row) next)

-- the first request with joined masks in the place of its own
unfoldable pub joined_request : (row next : List ℕ) → List ℕ
joined_request row next =
    let at = mask_start row in
    let size = mask_size row in
    let masks = join (masks_at row at size) (masks_at next at size) in
    put row at (masks.ors ++ masks.ands)

-- what is claimed: where the row's request is a masked write to a path, the next one is one to that path with masks of the same size, and the joined
-- request is one to that path with their masks joined
pub record JoinedWrite (path : List Segment) (first : Masks) (row next : List ℕ) : Type 0 where
  pub masks : Masks
  pub masking : Masking path masks next
  pub same_size : length first.ors ≡ length masks.ors
  pub joined : Masking path (join first masks) (joined_request row next)

abbrev pub RequestsJoin : Type 0
RequestsJoin =
    (path : List Segment) (first : Masks) (row next : List ℕ) → joins row next ≡ true → Masking path first row → JoinedWrite path first row next
