-- No breach is told exactly of valid tables: each test tells nothing where its rows pass, and the tests together are the definition's rules.
-- Assumes nothing.
use mathlib.Core.Path.{◌≡◌, refl, sym, ◌∙◌, ap, fun_ext}
use mathlib.Core.Bool.{Bool, true}
use mathlib.Core.List.{List, [], ◌∷◌, map}
use Rattle.std.specs.Prelude.{None}
use Prim.Native.Nat.{ℕ, ◌+◌, ◌-◌, ◌≤◌, ◌<◌}
use native.Mathlib.Omega.{arith}
use lib.Dec.{ltb, leb}
use lib.ListN.{length}
use borrow.Author.Tests.{lt-ltb, ltb-true, leb-true, leb-false}
use Rattle.laws.specs.Pick.{both}
use Rattle.laws.specs.Tests.{every, every_from, pairs}
use Rattle.laws.proofs.Chain.{by_test, clash}
use Rattle.laws.proofs.First.{first_all, first_none, is_none, none_is, first_every}
use Rattle.laws.proofs.Tests.{equal_tests, every_at, every_by, every_from_at, every_from_by, pairs_two, pairs_by, every_part_at, every_part_by, every_part, regroup, both_assoc, both_implied, every-both, every_append, from-both, from-every}
use Rattle.definition.specs.Tables.{Tables, Row, structure_name, structure_size, first_member, member_count, template_start, template_length, structure_at, members_in, member_name, member_type, member_bit, no_bit, member_access, program_name, tag_name, tag_id, tag_access, other_name, other_id}
use Rattle.definition.specs.Valid.{valid, encoded, t1, t2, t3, t4, t5, t6, name_stored, is_type, is_name, is_other_name, structure_encoded, member_encoded, tag_encoded, other_encoded, member_fits, structure_fits, tag_fits, end_in, apart, tag_names_differ, other_names_differ, program_names_differ, ids_differ}
use Rattle.definition.specs.Breach.{structures_table, members_table, programs_table, tags_table, others_table, Test, row_at, most, RowRule, each, two, tags_others, member_of, no_test, counts, name_length, name_bytes, structure_rules, member_rules, program_rules, tag_rules, other_rules, has_elements, ends_within, clashes, told_of, row_breach, test_breach, tests, breach}
use Rattle.definition.specs.Told.{NoneExactlyWhereValid}

-- ---- a test tells nothing exactly where all its rows pass

abbrev pub Passed : Test → Type 0
Passed x = (i j : ℕ) → i < x.others → x.from i ≤ j → j < x.upto i → x.holds i j ≡ true

pub told_none : (x : Test) (i j : ℕ) → told_of x i j ≡ None → x.holds i j ≡ true
told_none x i j e = by_test (x.holds i j) (λ q. q) (λ q. clash (cc))

pub passed : (x : Test) → test_breach x ≡ None → Passed x
unfolding test_breach row_breach
passed x e i j h l m =
    let row = first_all (row_breach x) 0 x.others i e (omega arith) (omega arith) in
    told_none x i j (first_all (told_of x i) (x.from i) (x.upto i - x.from i) j row l (omega arith))

none_told : (x : Test) → Passed x → test_breach x ≡ None
unfolding test_breach row_breach
none_told x f =
    first_none (row_breach x) 0 x.others
    (λ i h l. first_none (told_of x i) (x.from i) (x.upto i - x.from i) (λ j m n. rw (f i j (omega arith) m (omega arith))))

passes : Test → Bool
passes x = is_none (test_breach x)

passes_is : (x : Test) (b : Bool) → (b ≡ true → Passed x) → (Passed x → b ≡ true) → passes x ≡ b
unfolding passes
passes_is x b f g = equal_tests _ _ (λ e. g (passed x (none_is _ e))) (λ e. ap is_none (none_told x (f e)))

-- ---- what each maker's test tests

-- each member of each structure, with the structure and its index; each tag against each other symbol
abbrev in_structures : Tables → (ℕ → Row → Row → Bool) → Bool
in_structures t p = every_from (λ i s. every (p i s) (members_in t.members s)) 0 t.structures

abbrev against_others : Tables → (Row → Row → Bool) → Bool
against_others t p = every (λ r. every (p r) t.others) t.tags

most-passes : (table count limit : ℕ) → passes (most table count limit) ≡ leb count limit
most-passes table count limit =
    passes_is _ (leb count limit) (λ e i j h l m. lt-ltb j limit (omega (arith, leb-true count limit e)))
    (λ f. by_test (leb count limit) (λ q. q)
    (λ q. let n : limit < count = leb-false count limit q in absurd (omega (arith, ltb-true limit limit (f 0 limit (omega arith) (omega arith) n)))))

each-passes : (table : ℕ) (rows : List Row) (x : RowRule) → passes (each table rows x) ≡ every x.passes rows
each-passes table rows x =
    passes_is _ _ (λ e i j h l m. every_at x.passes [] rows j e m) (λ f. every_by x.passes [] rows (λ j h. f 0 j (omega arith) (omega arith) h))

two_pass : (rule table : ℕ) (rows : List Row) (p : Row → Row → Bool) → passes (two rule table rows p) ≡ pairs p rows
two_pass rule table rows p =
    passes_is _ _ (λ e i j h l m. pairs_two p [] rows i j e (omega arith) m) (λ f. pairs_by p [] rows (λ i j h l. f i j (omega arith) (omega arith) l))

module _ (rule : ℕ) (t : Tables) where
  others_pass : (p : Row → Row → Bool) → passes (tags_others rule t p) ≡ against_others t p
  others_pass p =
      passes_is _ _
      (λ e i j h l m. every_at (p (row_at t.tags i)) [] t.others j (every_at (λ r. every (p r) t.others) [] t.tags i e h) m)
      (λ f. every_by _ [] t.tags (λ i h. every_by _ [] t.others (λ j l. f i j h (omega arith) l)))

  members_pass : (p : ℕ → Row → Row → Bool) → passes (member_of rule t p) ≡ in_structures t p
  members_pass p =
      passes_is _ _
      (λ e i j h l m. every_part_at _ [] t.members (first_member (structure_at t i)) (member_count (structure_at t i)) j
      (every_from_at (λ i s. every (p i s) (members_in t.members s)) [] 0 t.structures i i e h (omega arith)) l m)
      (λ f. every_from_by _ [] 0 t.structures (λ i k h q. let z : k ≡ i = omega arith in rw z (every_part_by _ [] t.members _ _ (λ j l m. f i j h l m))))

-- the rules of a table's rows: each row passes them all
rows_pass : (table : ℕ) (rows : List Row) (rules : List RowRule)
    → every passes (map (each table rows) rules) ≡ every (λ r. every (λ x. x.passes r) rules) rows
unfolding every
rows_pass table rows [] = sym (every_by (λ r. true) [] rows (λ i h. refl))
rows_pass table rows (x ∷ rules) = rw (each-passes table rows x, rows_pass table rows rules) (sym (every-both x.passes _ rows))

table-passes : (table : ℕ) (rows : List Row) (rules : List RowRule) (p : Row → Bool) → ((r : Row) → every (λ x. x.passes r) rules ≡ p r)
    → every passes (map (each table rows) rules) ≡ every p rows
table-passes table rows rules p f = rows_pass table rows rules ∙ ap (λ q. every q rows) (fun_ext f)

-- ---- the tables one by one: a row's rules in the definition's groups

structure_row : (names : List ℕ) (members templates : ℕ) (r : Row) → every (λ x. x.passes r) (structure_rules names members templates)
    ≡ both (both (structure_encoded (length names) members r) (is_name (structure_name names r)))
    (both (ltb 0 (structure_size r)) (both (leb (structure_size r) 65535) (leb (template_start r + template_length r) templates)))
unfolding every structure_rules name_length name_bytes is_name structure_encoded
structure_row names members templates r = equal_tests _ _ (λ e. search regroup depth 20) (λ e. search regroup depth 20)

member-row : (names : List ℕ) (structures : ℕ) (r : Row) → every (λ x. x.passes r) (member_rules names structures)
    ≡ both (both (member_encoded (length names) structures r) (leb (member_access r) 3)) (both (is_name (member_name names r)) (leb (member_bit r) no_bit))
unfolding every member_rules name_length name_bytes is_name member_encoded
member-row names structures r = equal_tests _ _ (λ e. search regroup depth 20) (λ e. search regroup depth 20)

program_row : (names : List ℕ) (r : Row) → every (λ x. x.passes r) (program_rules names) ≡ both (name_stored (length names) r) (is_name (program_name names r))
unfolding every program_rules name_length name_bytes is_name
program_row names r = equal_tests _ _ (λ e. search regroup depth 20) (λ e. search regroup depth 20)

tag-row : (structures : List Row) (tag_names : List ℕ) (programs memory : ℕ) (r : Row)
    → every (λ x. x.passes r) (tag_rules structures tag_names programs memory)
    ≡ both (both (tag_encoded (length tag_names) programs r) (both (leb (tag_access r) 3) (is_name (tag_name tag_names r))))
    (both (ltb 0 (tag_id r)) (both (tag_fits (length structures) r) (leb (end_in structures r) memory)))
unfolding every tag_rules name_length name_bytes has_elements is_name tag_encoded tag_fits
tag-row structures tag_names programs memory r = equal_tests _ _ (λ e. search regroup depth 20) (λ e. search regroup depth 20)

other_row : (names : List ℕ) (programs : ℕ) (r : Row) → every (λ x. x.passes r) (other_rules names programs)
    ≡ both (other_encoded (length names) programs r) (both (is_other_name (other_name names r)) (ltb 0 (other_id r)))
unfolding every other_rules name_bytes is_other_name other_encoded
other_row names programs r = equal_tests _ _ (λ e. search regroup depth 20) (λ e. search regroup depth 20)

-- ---- the counts, the members of structures, and rows that clash

counted : (t : Tables) (memory : ℕ) → t1 t memory
    ≡ both (every passes (counts t memory)) (both (every (λ r. leb (tag_access r) 3) t.tags) (every (λ r. leb (member_access r) 3) t.members))
unfolding every counts t1
counted t memory = simp (most-passes, both_assoc)

clashes_pass : (t : Tables) → every passes (clashes t)
    ≡ both (in_structures t (λ i s r. is_type i (member_type r))) (both (in_structures t (λ i s r. ends_within t.structures (structure_size s) r))
    (both (pairs (program_names_differ t.names) t.programs) (both (pairs (tag_names_differ t.tag_names) t.tags)
    (both (against_others t (other_names_differ t.tag_names t.names)) (both (pairs ids_differ t.tags) (both (against_others t ids_differ)
    (both (pairs ids_differ t.others) (both (pairs (apart t.structures) t.tags) true))))))))
unfolding every clashes
clashes_pass t = simp (members_pass, two_pass, others_pass)

-- the bit of each member of a structure is that of a member row
bits_in_structures : (members structures : List Row) → every (λ r. leb (member_bit r) no_bit) members ≡ true
    → every (λ s. every (λ r. leb (member_bit r) no_bit) (members_in members s)) structures ≡ true
bits_in_structures members structures e =
    every_by _ [] structures (λ i h. let s = row_at structures i in every_part (λ r. leb (member_bit r) no_bit) [] members (first_member s) (member_count s) e)

fitted : (t : Tables) → t4 t
    ≡ both (every (λ r. ltb 0 (structure_size r)) t.structures) (both (every (λ r. leb (structure_size r) 65535) t.structures)
    (both (every (λ r. leb (template_start r + template_length r) (length t.templates)) t.structures)
    (both (in_structures t (λ i s r. is_type i (member_type r))) (both (in_structures t (λ i s r. ends_within t.structures (structure_size s) r))
    (every (λ r. leb (member_bit r) no_bit) t.members)))))
unfolding t4 structure_fits member_fits ends_within
fitted t = simp (from-both, from-every, every-both, both_assoc, both_implied _ _ (bits_in_structures t.members t.structures))

-- ---- all of it

-- the tests of structures, members, programs, tags, other symbols and of pairs of them, by tables and by rules
by_rules : (c s₁ s₂ s₃ s₄ s₅ m₁ m₂ m₃ m₄ p₁ p₂ t₁ t₂ t₃ t₄ t₅ t₆ o₁ o₂ o₃ sm₁ sm₂ pp tt₁ to₁ tt₂ to₂ oo tt₃ : Bool)
    → both (both (both (both (both
    (both c (both (both s₁ s₂) (both s₃ (both s₄ s₅)))) (both (both m₁ m₂) (both m₃ m₄))) (both p₁ p₂))
    (both (both t₁ (both t₂ t₃)) (both t₄ (both t₅ t₆)))) (both o₁ (both o₂ o₃)))
    (both sm₁ (both sm₂ (both pp (both tt₁ (both to₁ (both tt₂ (both to₂ (both oo (both tt₃ true)))))))))
    ≡ both (both s₁ (both m₁ (both p₁ (both t₁ o₁)))) (both (both c (both t₂ m₂))
    (both (both s₂ (both m₃ (both p₂ (both t₃ (both o₂ (both tt₁ (both to₁ pp))))))) (both (both t₄ (both o₃ (both tt₂ (both oo to₂))))
    (both (both s₃ (both s₄ (both s₅ (both sm₁ (both sm₂ m₄))))) (both t₅ (both t₆ tt₃))))))
by_rules c s₁ s₂ s₃ s₄ s₅ m₁ m₂ m₃ m₄ p₁ p₂ t₁ t₂ t₃ t₄ t₅ t₆ o₁ o₂ o₃ sm₁ sm₂ pp tt₁ to₁ tt₂ to₂ oo tt₃ =
    equal_tests _ _ (λ e. search regroup depth 40 fits 5000) (λ e. search regroup depth 40 fits 5000)

tests_are_valid : (t : Tables) (memory : ℕ) → every passes (tests t memory) ≡ valid t memory
unfolding tests valid encoded t2 t3 t5 t6
tests_are_valid t memory =
    let structures = table-passes structures_table t.structures _ _ (structure_row t.names (length t.members) (length t.templates)) in
    let members = table-passes members_table t.members _ _ (member-row t.names (length t.structures)) in
    let programs = table-passes programs_table t.programs _ _ (program_row t.names) in
    let tags = table-passes tags_table t.tags _ _ (tag-row t.structures t.tag_names (length t.programs) memory) in
    let others = table-passes others_table t.others _ _ (other_row t.names (length t.programs)) in
    simp (every_append, structures, members, programs, tags, others, every-both, counted, fitted, clashes_pass) (rw by_rules)

pub none_exactly_where_valid : NoneExactlyWhereValid
unfolding breach passes
none_exactly_where_valid t memory =
    let same = first_every test_breach no_test (tests t memory) ∙ tests_are_valid t memory in
    (λ e. sym same ∙ ap is_none e, λ e. none_is _ (same ∙ e))
