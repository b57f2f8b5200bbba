-- The type header by its pieces, and the three lengths of a tag as the definition has them.
-- Assumes nothing.
use mathlib.Core.Path.{◌≡◌, refl}
use mathlib.Core.Bool.{Bool, true, false}
use mathlib.Core.List.{List, [], ◌∷◌}
use Prim.Native.Nat.{ℕ, ◌+◌, ◌*◌, ◌/◌, ◌%◌, ◌≤◌, ◌<◌}
use native.Mathlib.Omega.{arith}
use native.Mathlib.Nat.{add-mul-mod_self_left}
use lib.Dec.{eqb}
use lib.ListN.{length}
use lib.Seq.{drop-cons}
use borrow.Author.Tests.{le-leb, lt-leb, ne_eqb}
use Rattle.laws.specs.Pick.{pick, is_empty}
use Rattle.laws.specs.Put.{put}
use Rattle.laws.proofs.Chain.{by_test}
use Rattle.laws.proofs.Put.{put_then}
use Rattle.definition.specs.Bytes.{le16}
use Rattle.definition.specs.Tables.{Row, field, handle, tag_type, tag_lengths, tag_elements, nonzero}
use Rattle.definition.specs.Types.{is_dword_array, structure_in, type_header}
use Rattle.definition.specs.Symbols.{listed_lengths}
use Rattle.definition.specs.Resolve.{index_lengths}
use Rattle.cip.specs.Writes.{Written}
use Rattle.model.specs.Shapes.{dword_array, listed3, cut3, indexed3, lengths3}

-- ---- the type header

pub le16_low : (h : ℕ) → le16 (h % 65536) ≡ le16 h
le16_low h =
    let a : h % 65536 % 256 ≡ h % 256 = omega arith in
    let b : h / 256 ≡ h % 65536 / 256 + 256 * (h / 65536) = omega arith in
    rw (a, b, add-mul-mod_self_left)

module _ (structures : List Row) (type at : ℕ) (old x y : List ℕ) (fits : at + 4 ≤ length old) where
  pub header_atomic : type < 256 → x ≡ put old at (le16 type) → Written at (type_header structures type) old 2 x
  unfolding type_header
  header_atomic t e =
      let low : type % 256 ≡ type = omega arith in
      let high : type / 256 % 256 ≡ 0 = omega arith in
      rw (lt-leb 256 type t) (record { length_is = refl; buffer_is = rw (low, high) at e })

  pub header_structure : (h v : ℕ) → 256 ≤ type → h ≡ handle (structure_in structures type) → v ≡ h % 65536
      → x ≡ put old at (le16 0x02A0) → y ≡ put x (at + 2) (le16 v) → Written at (type_header structures type) old 4 y
  unfolding type_header
  header_structure h v t q u f g = rw (le-leb 256 type t) (record {
    length_is = refl;
    buffer_is = rw (u, le16_low, q) at (put_then _ _ _ _ _ _ _ f g refl (omega arith));
  })

pub ruleset headers = (header_atomic, header_structure)

-- ---- the three lengths of a tag

empty_pick : (t : Bool) (n : ℕ) (ns : List ℕ) → is_empty (pick t [] (n ∷ ns)) ≡ t
empty_pick true n ns = refl
empty_pick false n ns = refl

nonzero-cut : (a b c : ℕ) → nonzero (cut3 (a ∷ b ∷ c ∷ [])) ≡ nonzero (a ∷ b ∷ c ∷ [])
nonzero-cut a b c =
    by_test (eqb a 0) (λ t. rw t) (λ t. by_test (eqb b 0) (λ u. simp (t, u)) (λ u. simp (t, u)))

module _ (r : Row) (long : 8 ≤ length r) where
  three_lengths : tag_lengths r ≡ lengths3 r
  three_lengths = rw (drop-cons r 5 0 (omega arith), drop-cons r 6 0 (omega arith), drop-cons r 7 0 (omega arith))

  dword_array_lem : is_dword_array r ≡ dword_array (tag_type r) (field 5 r)
  unfolding is_dword_array
  dword_array_lem = rw (three_lengths, empty_pick)

  -- as a page lists them
  pub listed_lengths_lem : listed3 (tag_type r) (lengths3 r) (tag_elements r) ≡ listed_lengths r
  unfolding listed_lengths
  listed_lengths_lem = rw (dword_array_lem, three_lengths)

  -- as indexes are held against them
  pub indexed_lengths : 0 < tag_elements r → nonzero (indexed3 (tag_type r) (lengths3 r) (tag_elements r)) ≡ index_lengths r
  unfolding index_lengths
  indexed_lengths h =
      let n : eqb (tag_elements r) 0 ≡ false = ne_eqb (tag_elements r) 0 (omega arith) in
      rw (dword_array_lem, three_lengths)
      (by_test (dword_array (tag_type r) (field 5 r)) (λ t. rw (t, n)) (λ t. rw (t, nonzero-cut)))
