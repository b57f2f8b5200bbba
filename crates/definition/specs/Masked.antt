-- Document 01, item 18: the masked write (0x4E), OR first, then AND, first element only.
-- 1756-PM020 (Read Modify Write Tag) defines the fields (size, OR masks, AND masks) and the order of the two; document 01 alone the checks.
use Rattle.std.specs.Prelude.{Bool, List, [], ◌∷◌, ℕ, ◌+◌, ◌*◌, ltb, eqb, length}
use Rattle.std.specs.Int.Bits.{bit_or, bit_and}
use Rattle.laws.specs.Pick.{pick, both}
use Rattle.definition.specs.Bytes.{u16_at, part}
use Rattle.definition.specs.Reply.{too_short, too_long, wrong_type}
use Rattle.definition.specs.Tables.{no_bit}
use Rattle.definition.specs.Types.{has_bits, atomic_size}
use Rattle.definition.specs.Resolve.{Target}
use Rattle.definition.specs.Write.{Stored, store, no_store}

-- byte by byte, at any width [PM020]
unfoldable pub masked : (bytes ors ands : List ℕ) → List ℕ
masked [] os ns = []
masked (b ∷ bs) [] ns = []
masked (b ∷ bs) (o ∷ os) [] = []
masked (b ∷ bs) (o ∷ os) (n ∷ ns) = bit_and (bit_or b o) n ∷ masked bs os ns

-- a structure, a bit, a BOOL, REAL or LREAL, or a wrong size, is a wrong type [01]
unfoldable pub takes_mask : Target → (size : ℕ) → Bool
takes_mask g size = both (eqb g.bit no_bit) (both (has_bits g.type) (eqb (atomic_size g.type) size))

-- [01]
unfoldable pub masked_stored : (memory : List ℕ) → Target → (body : List ℕ) → Stored
masked_stored memory g body =
    let size = u16_at body 0 in
    pick (ltb (length body) (2 + 2 * size)) (no_store too_short)
    (pick (ltb (2 + 2 * size) (length body)) (no_store too_long)
    (pick (takes_mask g size)
    (store g.start (masked (part memory g.start size) (part body 2 size) (part body (2 + size) size)))
    (no_store wrong_type)))
