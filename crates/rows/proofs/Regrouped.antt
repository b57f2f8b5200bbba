-- The validity of a table set as the code judges it, row by row, is the definition's, rule by rule.
-- Assumes nothing.
use mathlib.Core.Path.{◌≡◌, ap, fun_ext, ◌∙◌}
use mathlib.Core.Bool.{Bool}
use mathlib.Core.List.{List}
use Prim.Native.Nat.{ℕ}
use lib.Dec.{ltb, leb}
use lib.ListN.{length}
use Rattle.laws.specs.Pick.{both}
use Rattle.laws.specs.Tests.{every, every_from, pairs}
use Rattle.laws.proofs.Tests.{equal_tests, both_assoc, regroup, every-both, from-both, from-every, pairs-both}
use Rattle.definition.specs.Tables.{Tables, Row, structure_name, member_name, member_bit, no_bit, member_access, program_name, tag_name, tag_id, tag_access, other_name, other_id}
use Rattle.definition.specs.Valid.{valid, encoded, t1, t2, t3, t4, t5, t6, name_stored, is_name, is_other_name, structure_encoded, member_encoded, tag_encoded, other_encoded, structure_fits, tag_fits, end_in, apart, tag_names_differ, other_names_differ, ids_differ}
use Rattle.rows.specs.Judged.{judged, pairs_judged, few_enough, counts7, name_judged, structure_named, structure_judged, member_judged, program_judged, tag_judged, other_named, other_judged, tag_pair, tag_other}

-- ---- a table: what the code judges at once is its rules' tests together

module _ (structures members : List Row) (names : List ℕ) (templates : ℕ) where
  structure_row : (i : ℕ) (r : Row) → structure_judged structures members names templates i r
      ≡ both (both (structure_encoded (length names) (length members) r) (is_name (structure_name names r))) (structure_fits structures members templates i r)
  unfolding structure_judged structure_named name_judged structure_encoded
  structure_row i r = equal_tests _ _ (λ e. search regroup depth 20) (λ e. search regroup depth 20)

  structure_rows : (rows : List Row) → every_from (structure_judged structures members names templates) 0 rows
      ≡ both (both (every (structure_encoded (length names) (length members)) rows) (every (λ r. is_name (structure_name names r)) rows))
      (every_from (structure_fits structures members templates) 0 rows)
  structure_rows rows =
      ap (λ p. every_from p 0 rows) (fun_ext (λ i. fun_ext (structure_row i))) ∙ simp (from-both, from-every)

module _ (names : List ℕ) (n : ℕ) where
  member-row : (r : Row) → member_judged names n r
      ≡ both (both (member_encoded (length names) n r) (leb (member_access r) 3)) (both (is_name (member_name names r)) (leb (member_bit r) no_bit))
  unfolding member_judged name_judged member_encoded
  member-row r = equal_tests _ _ (λ e. search regroup depth 20) (λ e. search regroup depth 20)

  member-rows : (rows : List Row) → every (member_judged names n) rows
      ≡ both (both (every (member_encoded (length names) n) rows) (every (λ r. leb (member_access r) 3) rows))
      (both (every (λ r. is_name (member_name names r)) rows) (every (λ r. leb (member_bit r) no_bit) rows))
  member-rows rows = ap (λ p. every p rows) (fun_ext member-row) ∙ simp every-both

  other_row : (r : Row) → other_judged names n r ≡ both (other_encoded (length names) n r) (both (is_other_name (other_name names r)) (ltb 0 (other_id r)))
  unfolding other_judged other_named other_encoded
  other_row r = equal_tests _ _ (λ e. search regroup depth 20) (λ e. search regroup depth 20)

  other-rows : (rows : List Row) → every (other_judged names n) rows
      ≡ both (every (other_encoded (length names) n) rows) (both (every (λ r. is_other_name (other_name names r)) rows) (every (λ r. ltb 0 (other_id r)) rows))
  other-rows rows = ap (λ p. every p rows) (fun_ext other_row) ∙ simp every-both

program_rows : (names : List ℕ) (rows : List Row)
    → every (program_judged names) rows ≡ both (every (name_stored (length names)) rows) (every (λ r. is_name (program_name names r)) rows)
unfolding program_judged name_judged
program_rows names rows = every-both _ _ rows

module _ (structures : List Row) (tag_names : List ℕ) (programs memory : ℕ) where
  tag-row : (r : Row) → tag_judged structures tag_names programs memory r
      ≡ both (both (tag_encoded (length tag_names) programs r) (both (leb (tag_access r) 3) (is_name (tag_name tag_names r))))
      (both (ltb 0 (tag_id r)) (both (tag_fits (length structures) r) (leb (end_in structures r) memory)))
  unfolding tag_judged name_judged tag_encoded
  tag-row r = equal_tests _ _ (λ e. search regroup depth 20) (λ e. search regroup depth 20)

  tag-rows : (rows : List Row) → every (tag_judged structures tag_names programs memory) rows
      ≡ both (both (every (tag_encoded (length tag_names) programs) rows)
      (both (every (λ r. leb (tag_access r) 3) rows) (every (λ r. is_name (tag_name tag_names r)) rows)))
      (both (every (λ r. ltb 0 (tag_id r)) rows) (both (every (tag_fits (length structures)) rows) (every (λ r. leb (end_in structures r) memory) rows)))
  tag-rows rows = ap (λ p. every p rows) (fun_ext tag-row) ∙ simp every-both

pub tag-pairs : (structures : List Row) (tag_names : List ℕ) (rows : List Row) → pairs (tag_pair structures tag_names) rows
    ≡ both (pairs (tag_names_differ tag_names) rows) (both (pairs ids_differ rows) (pairs (apart structures) rows))
unfolding tag_pair
tag-pairs structures tag_names rows = simp pairs-both

pub tags_and_others : (tag_names names : List ℕ) (rows others : List Row) → every (λ r. every (tag_other tag_names names r) others) rows
    ≡ both (every (λ r. every (other_names_differ tag_names names r) others) rows) (every (λ r. every (ids_differ r) others) rows)
unfolding tag_other
tags_and_others tag_names names rows others = simp every-both

-- ---- all of it

counted : (t : Tables) (memory : ℕ) → t1 t memory
    ≡ both (few_enough t memory) (both (every (λ r. leb (tag_access r) 3) t.tags) (every (λ r. leb (member_access r) 3) t.members))
unfolding t1 counts7
counted t memory = simp both_assoc

-- the tests of structures, members, programs, tags, other symbols and of pairs of them, by tables and by rules
by_rules : (c s₁ s₂ s₃ m₁ m₂ m₃ m₄ p₁ p₂ t₁ t₂ t₃ t₄ t₅ t₆ o₁ o₂ o₃ tt₁ tt₂ tt₃ to₁ to₂ oo pp : Bool)
    → both c (both (both (both s₁ s₂) s₃)
    (both (both (both m₁ m₂) (both m₃ m₄))
    (both (both p₁ p₂) (both (both (both t₁ (both t₂ t₃)) (both t₄ (both t₅ t₆)))
    (both (both o₁ (both o₂ o₃)) (both (both tt₁ (both tt₂ tt₃)) (both (both to₁ to₂) (both oo pp))))))))
    ≡ both (both s₁ (both m₁ (both p₁ (both t₁ o₁))))
    (both (both c (both t₂ m₂)) (both (both s₂ (both m₃ (both p₂ (both t₃ (both o₂ (both tt₁ (both to₁ pp)))))))
    (both (both t₄ (both o₃ (both tt₂ (both oo to₂)))) (both (both s₃ m₄) (both t₅ (both t₆ tt₃))))))
by_rules c s₁ s₂ s₃ m₁ m₂ m₃ m₄ p₁ p₂ t₁ t₂ t₃ t₄ t₅ t₆ o₁ o₂ o₃ tt₁ tt₂ tt₃ to₁ to₂ oo pp =
    equal_tests _ _ (λ e. search regroup depth 40 fits 5000) (λ e. search regroup depth 40 fits 5000)

pub judged_is_valid : (t : Tables) (memory : ℕ) → judged t memory ≡ valid t memory
unfolding judged pairs_judged valid encoded t2 t3 t4 t5 t6
judged_is_valid t memory =
    rw (
      counted,
      structure_rows,
      member-rows,
      program_rows,
      tag-rows,
      other-rows,
      tag-pairs,
      tags_and_others t.tag_names t.names t.tags t.others,
      by_rules,
    )
