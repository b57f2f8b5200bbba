-- Rows made symbols, as the definition makes them, and a symbol's attributes one by one.
-- Assumes nothing.
use Rattle.std.proofs.Common.{◌≡◌, ℕ, ◌%◌, ◌<◌, ◌≤◌, Bool, true, false, ltb, eqb, List, length, refl, ap, ◌∙◌, arith, drop-cons, ltb-false, ltb-true}
use lib.ListN.{get_or-eq_default}
use Rattle.laws.specs.Pick.{pick}
use Rattle.laws.proofs.Chain.{chain, by_test}
use Rattle.definition.specs.Bytes.{le16, le32}
use Rattle.definition.specs.Tables.{Tables, Row, tag_id, tag_name, tag_type, tag_elements, tag_access, is_alias, lengths_of, nonzero}
use Rattle.definition.specs.Types.{symbol_type, size_in}
use Rattle.definition.specs.Lookup.{marked}
use Rattle.definition.specs.Symbols.{Symbol as Defined, base_tag, tag_symbol, symbol_attribute, attributes_of}
use Rattle.model.specs.Shapes.{listed3, lengths3}
use Rattle.model.proofs.Laws.{le16_low, listed_lengths_lem}
use Rattle.listing.proofs.Lists.{Adds}

-- ---- a symbol's attributes

pub low_same : (x y : ℕ) → x ≡ y % 65536 → le16 x ≡ le16 y
low_same x y e = rw (e, le16_low)

pub long_of : (x y : ℕ) → x ≡ y → le32 x ≡ le32 y
long_of x y e = rw e

pub ruleset values = (chain, low_same, long_of)

few_pick : (t : Bool) (xs ys : List ℕ) → (t ≡ true → length xs ≤ 4294967297) → length ys ≤ 4294967297 → length (pick t xs ys) ≤ 4294967297
few_pick true xs ys h k = h refl
few_pick false xs ys h k = k

module _ (d : Defined) where
  pub attributes : Adds (symbol_attribute d) (λ l. attributes_of d l)
  unfolding attributes_of
  attributes = record { none = refl; one = λ a l. refl }

  -- with a short name all of them are short
  pub attribute_short : length d.name ≤ 4294967295 → (a : ℕ) → length (symbol_attribute d a) ≤ 4294967297
  unfolding symbol_attribute
  attribute_short h a =
      few_pick (eqb a 1) _ _ (λ e. omega arith) (few_pick (eqb a 2) _ _ (λ e. omega arith) (few_pick (eqb a 3) _ _ (λ e. omega arith)
      (few_pick (eqb a 5) _ _ (λ e. omega arith) (few_pick (eqb a 6) _ _ (λ e. omega arith) (few_pick (eqb a 7) _ _ (λ e. omega arith)
      (few_pick (eqb a 8) _ _ (λ e. omega arith) (omega arith)))))))

-- ---- a tag's symbol

abbrev symbol : (id : ℕ) (name : List ℕ) (type control size : ℕ) (lengths : List ℕ) (access : ℕ) → Defined
symbol id name type control size lengths access =
    record { id = id; name = name; type = type; control = control; size = size; lengths = lengths; access = access }

-- a row that has elements is long enough
long_row : (r : Row) → 0 < tag_elements r → 8 ≤ length r
long_row r h =
    by_test (ltb 8 (length r)) (λ t. omega (arith, ltb-true 8 (length r) t))
    (λ t. absurd (omega (arith, h, get_or-eq_default r 0 (ltb-false 8 (length r) t))))

-- the number of its lengths
lengths_three : (r : Row) → 8 ≤ length r → nonzero (lengths3 r) ≡ lengths_of r
lengths_three r long = rw (drop-cons r 5 0 (omega arith), drop-cons r 6 0 (omega arith), drop-cons r 7 0 (omega arith))

-- field by field
pub tag-made : (t : Tables) (r : Row) (count kind control size : ℕ) (name lengths : List ℕ) → 0 < tag_elements r
    → name ≡ tag_name t.tag_names r → count ≡ length (nonzero (lengths3 r)) → kind ≡ symbol_type t.structures (tag_type r) count
    → control ≡ pick (marked (is_alias r)) 0 base_tag → size ≡ size_in t.structures (tag_type r)
    → lengths ≡ listed3 (tag_type r) (lengths3 r) (tag_elements r)
    → symbol (tag_id r) name kind control size lengths (tag_access r) ≡ tag_symbol t r
unfolding tag_symbol
tag-made t r count kind control size name lengths some m n k b z f =
    let long = long_row r some in
    let type : kind ≡ symbol_type t.structures (tag_type r) (length (lengths_of r)) = k
    ∙ ap (symbol_type t.structures (tag_type r)) (n ∙ ap length (lengths_three r long)) in
    rw (m, type, b, z, f ∙ listed_lengths_lem r long)
