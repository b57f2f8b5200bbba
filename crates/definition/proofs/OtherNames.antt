-- The names of other symbols (document 02, P2): what was a name is one, none has more than 48 bytes, and their length by the tests that the code makes.
-- Assumes nothing.
use mathlib.Core.Path.{◌≡◌, refl, ◌∙◌}
use mathlib.Core.Bool.{Bool, true, false}
use mathlib.Core.List.{List, [], ◌∷◌, ◌++◌}
use Prim.Native.Nat.{ℕ, ◌+◌, ◌-◌, ◌≤◌}
use native.Mathlib.Omega.{arith}
use lib.Dec.{ltb, leb}
use lib.ListN.{length, take, drop, replicate, length-drop}
use borrow.Author.Tests.{le-leb, leb-true}
use Rattle.laws.specs.Pick.{pick, both}
use Rattle.laws.specs.Tests.{every, some_of}
use Rattle.laws.specs.Zip.{agree}
use Rattle.laws.proofs.Chain.{by_test, both_on, clash}
use Rattle.laws.proofs.Tests.{equal_tests, both_true, both-none, among, every_at, every_by}
use Rattle.definition.specs.Names.{program_prefix, routine_prefix, task_prefix, starts_with, after_prefix}
use Rattle.definition.specs.Tables.{other_name}
use Rattle.definition.specs.Valid.{is_name, length_by, other_length, is_other_name, t2, valid}
use Rattle.definition.specs.Breach.{name_length}
use Rattle.definition.specs.Promises.{NameIsAnOtherName, WhatWasValidIsValid, OtherNameHasAtMost48Bytes}

-- ---- the length, by the tests that the code makes

-- at most 40 bytes behind k, also where there are 1 to 40 in all
behind_k : (name : List ℕ) (k : ℕ) → leb (length (drop k name)) 40 ≡ pick (name_length name) true (leb (length name) (40 + k))
unfolding name_length
behind_k name k =
    let n = length name in
    let rest : length (drop k name) ≡ n - k = length-drop k name in
    by_test (both (ltb 0 n) (leb n 40))
    (λ e. rw (e, rest) (le-leb (n - k) 40 (omega (arith, leb-true n 40 (both_true (ltb 0 n) (leb n 40) e).1))))
    (λ e. rw (e, rest) (equal_tests _ _ (λ h. le-leb n (40 + k) (omega (arith, leb-true (n - k) 40 h)))
    (λ h. le-leb (n - k) 40 (omega (arith, leb-true n (40 + k) h)))))

abbrev pub by_tests : List ℕ → Bool
by_tests name =
    pick (name_length name) true
    (pick (starts_with program_prefix name) (leb (length name) 48)
    (pick (starts_with routine_prefix name) (leb (length name) 48)
    (pick (starts_with task_prefix name) (leb (length name) 45) false)))

pub by_tests_lem : (name : List ℕ) → other_length name ≡ by_tests name
unfolding other_length length_by after_prefix name_length
by_tests_lem name =
    by_test (starts_with program_prefix name) (λ p. rw p (behind_k name 8))
    (λ p. by_test (starts_with routine_prefix name) (λ q. rw (p, q) (behind_k name 8))
    (λ q. by_test (starts_with task_prefix name) (λ r. rw (p, q, r) (behind_k name 5)) (λ r. rw (p, q, r) (in_all (name_length name)))))
  where
    in_all : (b : Bool) → b ≡ pick b true false
    in_all true = refl
    in_all false = refl

-- ---- what was a name is one, and so of valid tables

other_length_lem : (name : List ℕ) → name_length name ≡ true → other_length name ≡ true
other_length_lem name e = by_tests_lem name ∙ rw e refl

pub name_is_an_other_name : NameIsAnOtherName
unfolding is_name is_other_name name_length
name_is_an_other_name name e =
    let long = both_true (ltb 0 (length name)) _ e in
    let printable = both_true (leb (length name) 40) _ long.1 in
    both_on _ _ (other_length_lem name (both_on _ _ long.0 printable.0)) printable.1

pub what_was_valid_is_valid : WhatWasValidIsValid
unfolding valid t2
what_was_valid_is_valid t memory e =
    let former = among (every (λ r. is_name (other_name t.names r)) t.others) _ e (λ n. simp (n, both-none)) in
    let now : every (λ r. is_other_name (other_name t.names r)) t.others ≡ true =
    every_by _ [] t.others (λ i h. name_is_an_other_name _ (every_at (λ r. is_name (other_name t.names r)) [] t.others i former h)) in
    let rest = rw former at e in
    rw now rest

-- ---- at most 48 bytes

short : (name : List ℕ) → by_tests name ≡ true → length name ≤ 48
unfolding name_length
short name e =
    let n = length name in
    by_test (name_length name) (λ h. omega (arith, leb-true n 40 (both_true (ltb 0 n) _ h).1))
    (λ h. by_test (starts_with program_prefix name) (λ p. leb-true n 48 (rw (h, p) at e))
    (λ p. by_test (starts_with routine_prefix name) (λ q. leb-true n 48 (rw (h, p, q) at e))
    (λ q. by_test (starts_with task_prefix name) (λ r. omega (arith, leb-true n 45 (rw (h, p, q, r) at e))) (λ r. clash (cc)))))

pub other_name_has_at_most_48_bytes : OtherNameHasAtMost48Bytes
unfolding is_other_name
other_name_has_at_most_48_bytes name e = short name (rw (by_tests_lem name) at (both_true (other_length name) _ e).0)

-- ---- names on both sides of the limits, computed: must-fail/ has definitions that get one of them wrong

abbrev x : ℕ → List ℕ
x n = replicate n 0x78

-- `rOuTiNe:` and 40, `task:` and 40, `program:` alone
abbrev names : List (List ℕ)
names = (0x72 ∷ 0x4F ∷ 0x75 ∷ 0x54 ∷ 0x69 ∷ 0x4E ∷ 0x65 ∷ 0x3A ∷ x 40) ∷ (task_prefix ++ x 40) ∷ program_prefix ∷ []

-- `task:` and 41, 41 without a prefix, `map:` and 37, `program` without its colon and 34, a byte 0x7F at the end
abbrev no_names : List (List ℕ)
no_names =
    (task_prefix ++ x 41)
    ∷ x 41
    ∷ (0x6D ∷ 0x61 ∷ 0x70 ∷ 0x3A ∷ x 37)
    ∷ (take 7 program_prefix ++ x 34)
    ∷ (program_prefix ++ x 39 ++ 0x7F ∷ [])
    ∷ []

sides : (every is_other_name names ≡ true) × (some_of is_other_name no_names ≡ false)
unfolding every some_of agree starts_with after_prefix length_by other_length is_other_name
sides = (refl, refl)
