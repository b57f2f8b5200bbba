-- Document 02, P13: the masks of masked writes in a row, joined into those of one.
-- 1756-PM020 (Read Modify Write Tag) defines the fields; document 02 alone how masks are joined [P13].
use Rattle.std.specs.Prelude.{Bool, List, [], ◌∷◌, ℕ, ◌+◌, ◌*◌, ltb, eqb, length, replicate}
use Rattle.std.specs.Prelude.{Option, None, Some}
use Rattle.std.specs.Int.Bits.{bit_or}
use Rattle.laws.specs.Pick.{pick, ◌&◌}
use Rattle.definition.specs.Bytes.{u16_at, part}
use Rattle.definition.specs.Masked.{masked}

-- a pair of masks, of any width
pub record Masks : Type 0 where
  pub ors : List ℕ
  pub ands : List ℕ

abbrev pub pair : (ors ands : List ℕ) → Masks
pair ors ands = record { ors = ors; ands = ands }

-- what a pair of masks leaves of some bytes [PM020]
abbrev pub masked_by : (bytes : List ℕ) → Masks → List ℕ
masked_by bytes m = masked bytes m.ors m.ands

-- ---- joining

-- o1 or o2, byte by byte [P13]
unfoldable pub join_ors : (ors next : List ℕ) → List ℕ
join_ors [] ps = []
join_ors (o ∷ os) [] = []
join_ors (o ∷ os) (p ∷ ps) = bit_or o p ∷ join_ors os ps

-- OR mask o1 or o2; AND mask (a1 or o2) and a2, which is the first AND mask, written to by the second pair [P13]
abbrev pub join : (first next : Masks) → Masks
join first next = pair (join_ors first.ors next.ors) (masked_by first.ands next)

-- a row of them, from the first on [P13]
unfoldable pub join_row : (first : Masks) (rest : List Masks) → Masks
join_row first [] = first
join_row first (next ∷ rest) = join_row (join first next) rest

-- the four masks of two pairs are of one length [P13]
unfoldable pub joinable : (first next : Masks) → Bool
joinable first next =
    let size = length first.ors in
    eqb (length first.ands) size & eqb (length next.ors) size & eqb (length next.ands) size

-- the first pair with the second joined to it, or as it was where the lengths are not equal [P13]
abbrev pub joined_to : (first next : Masks) → Masks
joined_to first next = pick (joinable first next) (join first next) first

-- zeros with all ones, which leave bytes as they were [P13]
abbrev pub no_change : (size : ℕ) → Masks
no_change size = pair (replicate size 0) (replicate size 255)

-- [CIP]
abbrev pub is_byte : ℕ → Bool
is_byte b = ltb b 256

-- ---- the masks that a masked write carries: a size of 16 bits, as many OR bytes, as many AND bytes, and nothing behind them

-- [PM020]
unfoldable pub masks_in : (body : List ℕ) → Option Masks
masks_in body =
    let size = u16_at body 0 in
    pick (eqb (length body) (2 + 2 * size)) (Some (pair (part body 2 size) (part body (2 + size) size))) None
