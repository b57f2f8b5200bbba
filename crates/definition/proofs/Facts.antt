-- What valid tables say of a tag and of a structure: types are of the table, sizes and element counts are positive, members lie in their
-- structure and tags in tag memory.
-- Assumes nothing.
use mathlib.Core.Path.{◌≡◌}
use mathlib.Core.Bool.{true}
use mathlib.Core.List.{List, [], ◌∷◌}
use Prim.Native.Nat.{ℕ, ◌+◌, ◌-◌, ◌*◌, ◌≤◌, ◌<◌, max}
use native.Mathlib.Nat.{mul-pos}
use native.Mathlib.Omega.{arith}
use lib.Dec.{ltb, leb, eqb}
use lib.ListN.{length, get_or, drop}
use lib.Seq.{get_or-take, get_or-drop}
use borrow.Author.Tests.{ltb-true, leb-true, lt-ltb, le-ltb, lt-leb, eqb-true, eqb-false}
use Rattle.laws.specs.Pick.{either}
use Rattle.laws.proofs.Chain.{by_test, pick_all}
use Rattle.laws.proofs.Tests.{both_true, either_true, every_at, every_from_at, not_empty}
use Rattle.definition.specs.Tables.{Tables, Row, field, structure_size, template_start, template_length, structure_at, members_of, member_type, member_length, member_offset, member_bit, no_bit, tag_type, tag_lengths, nonzero, lengths_of, tag_elements}
use Rattle.definition.specs.Types.{atomic_size, is_structure, is_dword_array, element_size, size_in, DWORD}
use Rattle.definition.specs.Lookup.{tag_at}
use Rattle.definition.specs.Valid.{is_type, encoded, t1, t2, t3, member_fits, structure_fits, t4, product, zeros_last, is_bool_array, tag_fits, t5, tag_end, t6, valid}
use Rattle.definition.specs.Resolve.{index_lengths}

-- ---- types

pub structure_in_lem : (bound type : ℕ) → is_structure type ≡ true → is_type bound type ≡ true → type - 0x100 < bound
unfolding is_type
structure_in_lem bound type s e = ltb-true _ bound (rw s at e)

-- a type of the structures below an index is one of those below a higher index
type_of_more : (a b type : ℕ) → a ≤ b → is_type a type ≡ true → is_type b type ≡ true
unfolding is_type
type_of_more a b type h e =
    by_test (is_structure type) (λ s. rw s (lt-ltb _ b (omega (arith, structure_in_lem a type s e)))) (λ s. rw s (rw s at e))

-- an element has its code's bytes at least: a structure has no code
pub atomic_inside : (structures : List Row) (type : ℕ) → atomic_size type ≤ size_in structures type
unfolding size_in atomic_size
atomic_inside structures type =
    by_test (is_structure type)
    (λ s. let h = leb-true 0x100 type s in
    rw (le-ltb type 0xC1 (omega arith), lt-leb type 0xCB (omega arith), le-ltb type 0xD1 (omega arith), lt-leb type 0xD4 (omega arith))
    (omega arith))
    (λ s. rw s (omega arith))

-- a type of the table has some bytes, if each structure has
pub size-some : (structures : List Row) (type : ℕ) → ((i : ℕ) → i < length structures → 0 < structure_size (get_or structures i []))
    → is_type (length structures) type ≡ true → 0 < size_in structures type
unfolding is_type size_in
size-some structures type sized e =
    by_test (is_structure type) (λ s. rw s (sized _ (structure_in_lem _ type s e))) (λ s. rw s (ltb-true 0 _ (rw s at e)))

-- ---- array lengths

product-some : (ns : List ℕ) → 0 < product (nonzero ns)
product-some [] = omega arith
product-some (n ∷ ns) =
    by_test (eqb n 0) (λ e. rw e (omega arith)) (λ e. rw e (mul-pos (omega (arith, eqb-false n 0 e)) (product-some ns)))

first_some : (ns : List ℕ) → 0 < length (nonzero ns) → 0 < get_or ns 0 0
first_some [] h = h
first_some (n ∷ ns) h = by_test (eqb n 0) (λ e. absurd (omega (arith, rw e at h))) (λ e. omega (arith, eqb-false n 0 e))

-- a tag has elements, and as many as its indexes reach
abbrev Elements : Row → Type 0
Elements r = (0 < tag_elements r) × (product (index_lengths r) ≤ tag_elements r)

elements-counted : (r : Row) → tag_elements r ≡ product (lengths_of r) → Elements r
unfolding index_lengths
elements-counted r e =
    (omega (arith, product-some (tag_lengths r)), pick_all (λ ns. product ns ≤ tag_elements r) (is_dword_array r) (omega arith) (omega arith))

elements_of_bools : (r : Row) → is_bool_array r ≡ true → Elements r
unfolding is_bool_array index_lengths is_dword_array
elements_of_bools r e =
    let dword = both_true (eqb (tag_type r) DWORD) _ e in
    let one = both_true (eqb (length (lengths_of r)) 1) _ dword.1 in
    let some : 0 < length (lengths_of r) = omega (arith, eqb-true (length (lengths_of r)) 1 one.0) in
    let first : 0 < field 5 r = rw (get_or-take 3 (drop 5 r) 0 0 (omega arith), get_or-drop 5 r 0 0) at (first_some (tag_lengths r) some) in
    (omega (arith, eqb-true (tag_elements r * 32) (field 5 r) one.1), rw (dword.0, not_empty (lengths_of r) some) (omega arith))

pub elements-some : (r : Row) → either (eqb (tag_elements r) (product (lengths_of r))) (is_bool_array r) ≡ true → Elements r
elements-some r e =
    either_true (eqb (tag_elements r) (product (lengths_of r))) (is_bool_array r) e (λ q. elements-counted r (eqb-true _ _ q)) (elements_of_bools r)

-- ---- the tests of a table set

module _ (t : Tables) (memory : ℕ) (ok : valid t memory ≡ true) where
  last_three : (t4 t ≡ true) × (t5 t ≡ true) × (t6 t memory ≡ true)
  unfolding valid
  last_three =
      let e = both_true (t3 t) _ (both_true (t2 t) _ (both_true (t1 t memory) _ (both_true (encoded t) _ ok).1).1).1 in
      let from4 = both_true (t4 t) _ e.1 in
      let from5 = both_true (t5 t) _ from4.1 in
      (from4.0, from5.0, from5.1)

  structure_fits_lem : (i : ℕ) → i < length t.structures → structure_fits t.structures t.members (length t.templates) i (structure_at t i) ≡ true
  unfolding t4
  structure_fits_lem i h = every_from_at (structure_fits t.structures t.members (length t.templates)) [] 0 t.structures i i
      (both_true _ _ last_three.0).0 h (omega arith)

  structure_some : (i : ℕ) → i < length t.structures → 0 < structure_size (structure_at t i)
  unfolding structure_fits
  structure_some i h = ltb-true 0 _ (both_true _ _ (structure_fits_lem i h)).0

  module _ (i j : ℕ) (h : i < length t.structures) (l : j < length (members_of t (structure_at t i))) where
    abbrev structure : Row
    structure = structure_at t i

    abbrev member : Row
    member = get_or (members_of t structure) j []

    member-fits : member_fits t.structures i (structure_size structure) member ≡ true
    unfolding structure_fits
    member-fits =
        let e = (both_true (leb (structure_size structure) 65535) _ (both_true (ltb 0 (structure_size structure)) _ (structure_fits_lem i h)).1).1 in
        every_at (member_fits t.structures i (structure_size structure)) [] (members_of t structure) j
        (both_true (leb (template_start structure + template_length structure) (length t.templates)) _ e).1 l

    pub member-type : is_type (length t.structures) (member_type member) ≡ true
    unfolding member_fits
    member-type = type_of_more i (length t.structures) (member_type member) (omega arith) (both_true _ _ member-fits).0

    pub member-inside : member_offset member + element_size t (member_type member) * max 1 (member_length member) ≤ structure_size structure
    unfolding member_fits
    member-inside = leb-true _ _ (both_true _ _ (both_true (is_type i (member_type member)) _ member-fits).1).0

    pub member-bit : member_bit member ≤ no_bit
    unfolding member_fits
    member-bit =
        leb-true _ _
        (both_true (leb (member_offset member + element_size t (member_type member) * max 1 (member_length member)) (structure_size structure)) _
        (both_true (is_type i (member_type member)) _ member-fits).1).1

  pub element-some : (type : ℕ) → is_type (length t.structures) type ≡ true → 0 < element_size t type
  element-some type e = size-some t.structures type structure_some e

  -- ---- a tag

  module _ (i : ℕ) (h : i < length t.tags) where
    abbrev row : Row
    row = tag_at t i

    tag_fits_lem : tag_fits (length t.structures) row ≡ true
    unfolding t5
    tag_fits_lem = every_at (tag_fits (length t.structures)) [] t.tags i last_three.1 h

    pub tag-type : is_type (length t.structures) (tag_type row) ≡ true
    unfolding tag_fits
    tag-type = (both_true _ _ tag_fits_lem).0

    pub tag_in_memory : tag_end t row ≤ memory
    unfolding t6
    tag_in_memory = leb-true _ memory (every_at (λ r. leb (tag_end t r) memory) [] t.tags i (both_true _ _ last_three.2).0 h)

    pub tag-elements : Elements row
    unfolding tag_fits
    tag-elements =
        elements-some row (both_true (zeros_last (tag_lengths row)) _ (both_true (is_type (length t.structures) (tag_type row)) _ tag_fits_lem).1).1
