-- What is told of a row is true of it (specs/Told.antt). The tests are a list that computes, and so are those of a rule: each field of `Says` is shown of
-- these.
-- Assumes nothing.
use mathlib.Core.Path.{◌≡◌, refl, ◌∙◌, ap, subst}
use mathlib.Core.Logic.{◌⊎◌, inl, inr}
use mathlib.Core.Bool.{Bool, true, false, not}
use mathlib.Core.List.{List}
use Rattle.std.specs.Prelude.{Option, None, Some}
use Prim.Native.Nat.{ℕ, ◌-◌, ◌≤◌, ◌<◌, max}
use native.Mathlib.Nat.{mul-pos}
use native.Mathlib.Omega.{arith}
use lib.Dec.{ltb, leb, eqb}
use lib.ListN.{length, get_or, drop}
use borrow.Author.Tests.{leb-true, leb-false, ltb-false, ltb-true, eq-eqb, eqb-true, eqb-false, not-false}
use Rattle.laws.specs.Pick.{pick, both}
use Rattle.laws.specs.Sorted.{All}
use Rattle.laws.proofs.Chain.{by_test, clash}
use Rattle.laws.proofs.First.{First, first_some}
use Rattle.laws.specs.Tests.{stretch}
use Rattle.laws.proofs.Tests.{both_true, both_fails, either_fails, every_fails, All-at, All-parts, passing, All-passing, passing_at, All-stretch}
use Rattle.definition.specs.Names.{after_prefix}
use Rattle.definition.specs.Tables.{Tables, Row, tag_scope, tag_id, tag_type, tag_offset}
use Rattle.definition.specs.Types.{is_structure}
use Rattle.definition.specs.Valid.{is_type, length_by, other_length, tag_names_differ, other_names_differ, program_names_differ, ids_differ, end_in, apart}
use Rattle.definition.specs.Breach.{Breach, Test, row_at, counts, name_length, name_bytes, structure_rules, member_rules, program_rules, has_elements, tag_rules, other_rules, ends_within, clashes, tests, no_test, test_at, tell, told_of, row_breach, test_breach, breach}
use Rattle.definition.specs.Told.{behind, count_of, NoType, OddByte, SharedByte, Says, WhatIsToldIsTrue}
use Rattle.definition.proofs.Breaches.{told_none, passed as all_pass}
use Rattle.definition.proofs.Facts.{size-some, elements-some}
use Rattle.definition.proofs.Lengths.{zero-between}

-- ---- one test: what holds where it tells nothing, and what does not where it tells something

-- row j is one of those that row i is tested against
record Reached (x : Test) (i j : ℕ) : Type 0 where
  against : i < x.others
  low : x.from i ≤ j
  high : j < x.upto i

abbrev Holds : Test → Type 0
Holds x = (i j : ℕ) → Reached x i j → x.holds i j ≡ true

abbrev Before : Test → (i j : ℕ) → Type 0
Before x i j = (k : ℕ) → x.from i ≤ k → k < j → x.holds i k ≡ true

record Tells (x : Test) (b : Breach) : Type 0 where
  i : ℕ
  j : ℕ
  reached : Reached x i j
  before : Before x i j
  broken : x.holds i j ≡ false
  same : tell x i j ≡ b

some-told : (h : Bool) (a b : Breach) → pick h None (Some a) ≡ Some b → (h ≡ false) × (a ≡ b)
some-told true a b e = clash (cc)
some-told false a b e = (refl, (cc))

holds : (x : Test) → test_breach x ≡ None → Holds x
holds x e i j r = all_pass x e i j r.against r.low r.high

tells : (x : Test) (b : Breach) → test_breach x ≡ Some b → Tells x b
unfolding test_breach row_breach
tells x b e =
    let r = first_some (row_breach x) 0 x.others b e in
    let i = r.number in
    let s = first_some (told_of x i) (x.from i) (x.upto i - x.from i) b r.says in
    let h = some-told (x.holds i s.number) _ b s.says in
    record {
      i = i;
      j = s.number;
      reached = omega (arith, r.high, s.low, s.high);
      before = λ k l m. told_none x i k (s.before k l m);
      broken = h.0;
      same = h.1;
    }

-- ---- what a test that fails says of a number, a type, a name and two rows

first_over : (j limit : ℕ) → ((k : ℕ) → 0 ≤ k → k < j → ltb k limit ≡ true) → ltb j limit ≡ false → j ≡ limit
first_over j limit before e =
    by_test (ltb limit j) (λ h. absurd (omega (arith, ltb-true limit limit (before limit (omega arith) (ltb-true limit j h)))))
    (λ h. omega (arith, ltb-false limit j h, ltb-false j limit e))

none_or_over : (n most : ℕ) → both (ltb 0 n) (leb n most) ≡ false → (n ≡ 0) ⊎ (most < n)
none_or_over n most e = both_fails (ltb 0 n) _ e (λ p. inl (omega (arith, ltb-false 0 n p))) (λ p. inr (leb-false n most p))

no_type : (bound type : ℕ) → is_type bound type ≡ false → NoType bound type
unfolding is_type
no_type bound type e =
    by_test (is_structure type) (λ s. inr (omega (arith, leb-true 0x100 type s, ltb-false (type - 0x100) bound (rw s at e))))
    (λ s. inl (leb-false 0x100 type s, rw s at e))

none_or_long : (name : List ℕ) → name_length name ≡ false → (length name ≡ 0) ⊎ (40 < length name)
unfolding name_length
none_or_long name e = none_or_over (length name) 40 e

-- of an other symbol's name, by what stands after its prefix
none_or_long_after : (name : List ℕ) (after : Option (List ℕ)) → length_by name after ≡ false → (length name ≡ 0) ⊎ (40 < length (behind name after))
unfolding length_by
none_or_long_after name (Some rest) e = inr (leb-false (length rest) 40 e)
none_or_long_after name None e = none_or_over (length name) 40 e

none_or_long_other : (name : List ℕ) → other_length name ≡ false → (length name ≡ 0) ⊎ (40 < length (behind name (after_prefix name)))
unfolding other_length
none_or_long_other name e = none_or_long_after name (after_prefix name) e

odd_byte : (name : List ℕ) → name_bytes name ≡ false → OddByte name
unfolding name_bytes
odd_byte name e =
    let r = every_fails _ 0 name e in
    record {
      at = r.at;
      in_name = r.inside;
      odd = both_fails (leb 0x20 (get_or name r.at 0)) _ r.fails (λ p. inl (leb-false 0x20 _ p)) (λ p. inr (leb-false _ 0x7E p));
    }

both_same : (a b : ℕ) (u : Bool) → not (both (eqb a b) u) ≡ false → (a ≡ b) × (u ≡ true)
both_same a b u e = let r = both_true (eqb a b) u (not-false _ e) in (eqb-true a b r.0, r.1)

-- L: which row is the later one; M: where scopes count
same_names : {L M : Type 0} (a b : ℕ) (u : Bool) → not (both (eqb a b) u) ≡ false → L → (u ≡ true) × (M → a ≡ b) × L
same_names a b u e later = let r = both_same a b u e in (r.1, λ m. r.0, later)

same_ids : {L : Type 0} (a b : Row) → ids_differ a b ≡ false → L → (tag_scope a ≡ tag_scope b) × (tag_id a ≡ tag_id b) × L
unfolding ids_differ
same_ids a b e later = let r = both_same (tag_scope a) (tag_scope b) _ e in (r.0, eqb-true (tag_id a) (tag_id b) r.1, later)

-- two tags that have bytes and do not lie apart have the first byte of the later one
shared : (structures : List Row) (a b : Row) → apart structures a b ≡ false → tag_offset a < end_in structures a → tag_offset b < end_in structures b
    → SharedByte structures a b
unfolding apart
shared structures a b e p q =
    let r = either_fails (leb (end_in structures a) (tag_offset b)) _ e in
    let u = leb-false (end_in structures a) (tag_offset b) r.0 in
    let v = leb-false (end_in structures b) (tag_offset a) r.1 in
    record { byte = max (tag_offset a) (tag_offset b); in_first = omega arith; in_second = omega arith }

-- ---- a breach that is told

abbrev is_rule : ℕ → Test → Bool
is_rule k x = eqb x.rule k

abbrev Claim : (Breach → Type 0) → Test → Type 0
Claim P x = (i j : ℕ) → Reached x i j → Before x i j → x.holds i j ≡ false → P (tell x i j)

module _ (t : Tables) (memory : ℕ) (b : Breach) (e : breach t memory ≡ Some b) where
  first : First (λ n. test_breach (test_at t memory n)) 0 (length (tests t memory)) b
  unfolding breach
  first = first_some (λ n. test_breach (test_at t memory n)) 0 (length (tests t memory)) b e

  inside : first.number < length (tests t memory)
  inside = omega (arith, first.high)

  telling : Tells (test_at t memory first.number) b
  telling = tells (test_at t memory first.number) b first.says

  its_rule : {k : ℕ} → b.rule ≡ k → is_rule k (test_at t memory first.number) ≡ true
  its_rule {k} q = eq-eqb _ k (ap (λ (c : Breach). c.rule) telling.same ∙ q)

  of_test : (P : Breach → Type 0) → Claim P (test_at t memory first.number) → P b
  of_test P f = subst P telling.same (f telling.i telling.j telling.reached telling.before telling.broken)

  -- a field of `Says`, from the tests of its rule; the first argument says which field
  rule : {k : ℕ} {P : Breach → Type 0} → ((c : Breach) → Says t memory c → c.rule ≡ k → P c) → All (Claim P) (passing (is_rule k) (tests t memory))
      → b.rule ≡ k → P b
  rule {k} {P} field all q = of_test P (passing_at (is_rule k) (Claim P) no_test (tests t memory) first.number all inside (its_rule q))

  -- ---- the row told is one of its table

  abbrev InTable : Test → Type 0
  InTable x = (i : ℕ) → x.upto i ≤ count_of t memory x.table

  in_table : All InTable (tests t memory)
  unfolding tests counts structure_rules member_rules program_rules tag_rules other_rules clashes
  in_table = All-parts InTable 18 (tests t memory) (omega arith) (All-parts InTable 18 (drop 18 (tests t memory)) (omega arith) (omega arith))

  row-stands : b.row < count_of t memory b.table
  row-stands =
      of_test (λ c. c.row < count_of t memory c.table)
      (λ i j r f h. omega (arith, r.high, All-at InTable no_test (tests t memory) first.number in_table inside i))

  -- ---- the tests before the one that is broken hold

  passed : {k : ℕ} (m : ℕ) → b.rule ≡ k → All Holds (passing (is_rule m) (stretch (is_rule k) (tests t memory)))
  passed {k} m q =
      All-passing (is_rule m) Holds (stretch (is_rule k) (tests t memory))
      (All-stretch (is_rule k) Holds no_test (tests t memory) first.number (its_rule q) (λ n h. holds (test_at t memory n) (first.before n (omega arith) h)))

  -- where the last test is reached, each tag has bytes: T4's sizes, T5's types and T5's element counts were looked at
  has_bytes : b.rule ≡ 602 → (j : ℕ) → j < length t.tags → tag_offset (row_at t.tags j) < end_in t.structures (row_at t.tags j)
  unfolding tests counts structure_rules member_rules program_rules tag_rules other_rules clashes has_elements stretch
  has_bytes q j h =
      let r = row_at t.tags j in
      let some_elements = (elements-some r ((passed 503 q).0 0 j (omega arith))).0 in
      let some_size =
      size-some t.structures (tag_type r) (λ i l. ltb-true 0 _ (both_true _ _ ((passed 401 q).0 0 i (omega arith))).0) ((passed 501 q).0 0 j (omega arith)) in
      omega (arith, mul-pos some_elements some_size)

  -- ---- all of it

  says : Says t memory b
  unfolding tests counts structure_rules member_rules program_rules tag_rules other_rules clashes
      program_names_differ tag_names_differ other_names_differ ends_within has_elements
  says = record {
    stands = row-stands;
    name_not_stored = rule (λ c s. s.name_not_stored) (omega (arith, leb-false));
    no_such_scope = rule (λ c s. s.no_such_scope) (omega (arith, leb-false));
    member_no_type = rule (λ c s. s.member_no_type) (search no_type);
    template_id_wide = rule (λ c s. s.template_id_wide) (omega (arith, leb-false));
    handle_wide = rule (λ c s. s.handle_wide) (omega (arith, leb-false));
    symbol_type_wide = rule (λ c s. s.symbol_type_wide) (omega (arith, leb-false));
    members_not_stored = rule (λ c s. s.members_not_stored) (omega (arith, leb-false));
    aoi_no_mark = rule (λ c s. s.aoi_no_mark) (omega (arith, leb-false));
    hidden_no_mark = rule (λ c s. s.hidden_no_mark) (omega (arith, leb-false));
    local_no_mark = rule (λ c s. s.local_no_mark) (omega (arith, leb-false));
    alias_no_mark = rule (λ c s. s.alias_no_mark) (omega (arith, leb-false));
    too_many = rule (λ c s. s.too_many) (search first_over depth 9);
    access_high = rule (λ c s. s.access_high) (omega (arith, leb-false));
    name_length = rule (λ c s. s.name_length) (search (none_or_long, none_or_long_other));
    name_byte = rule (λ c s. s.name_byte) (search odd_byte);
    has_same_name =
        rule (λ c s. s.has_same_name) (
          (λ i j r f h. (not-false _ h, λ n. absurd (n refl), λ q. omega arith)),
          ((λ i j r f h. same_names _ _ _ h (λ q. omega arith)), ((λ i j r f h. same_names _ _ _ h (λ q. omega arith)), tt)),
        );
    id_zero = rule (λ c s. s.id_zero) (omega (arith, ltb-false));
    same_id =
        rule (λ c s. s.same_id) (
          (λ i j r f h. same_ids _ _ h (λ q. omega arith)),
          ((λ i j r f h. same_ids _ _ h (λ q. omega arith)), ((λ i j r f h. same_ids _ _ h (λ q. omega arith)), tt)),
        );
    size_of_structure = rule (λ c s. s.size_of_structure) (search none_or_over);
    template_not_stored = rule (λ c s. s.template_not_stored) (omega (arith, leb-false));
    bit_high = rule (λ c s. s.bit_high) (omega (arith, leb-false));
    type_not_earlier = rule (λ c s. s.type_not_earlier) ((λ i j r f h. (no_type _ _ h, omega arith)), tt);
    not_inside = rule (λ c s. s.not_inside) (omega (arith, leb-false));
    tag_no_type = rule (λ c s. s.tag_no_type) (search no_type);
    zero_between = rule (λ c s. s.zero_between) (search zero-between);
    elements_wrong = rule (λ c s. s.elements_wrong) ((λ i j r f h. let s = either_fails _ _ h in (eqb-false _ _ s.0, s.1)), tt);
    past_memory = rule (λ c s. s.past_memory) (omega (arith, leb-false));
    shared_byte =
        λ q. rule (λ c s. s.shared_byte)
        ((λ i j r f h. (shared _ _ _ h (has_bytes q i r.against) (has_bytes q j r.high), λ p. omega arith)), tt) q;
  }

pub what_is_told_is_true : WhatIsToldIsTrue
what_is_told_is_true t memory b e = says t memory b e
