-- A tag's three lengths as numbers, and products of 32-bit numbers.
-- Assumes nothing.
use mathlib.Core.Path.{◌≡◌, refl, sym, ◌∙◌}
use mathlib.Core.Bool.{Bool, true, false, not}
use mathlib.Core.List.{List, [], ◌∷◌}
use Prim.Native.Nat.{ℕ, ◌+◌, ◌*◌}
use native.Mathlib.Omega.{arith}
use native.Mathlib.Nat.{mul-one, mul_assoc}
use lib.Dec.{ltb, leb, eqb}
use lib.ListN.{length, take, drop}
use lib.Seq.{get_or-drop}
use borrow.Author.Tests.{lt-leb, leb-false}
use Rattle.laws.specs.Pick.{pick, both, either}
use Rattle.laws.specs.Tests.{every, some_of}
use Rattle.laws.proofs.Chain.{by_test}
use Rattle.laws.proofs.Tests.{both_assoc, both-none}
use Rattle.definition.specs.Names.{starts_with, program_prefix, routine_prefix, task_prefix}
use Rattle.definition.specs.Tables.{Row, field, structure_size, template_start, template_length, members_in, tag_type, tag_lengths, tag_elements, nonzero}
use Rattle.definition.specs.Types.{DWORD}
use Rattle.definition.specs.Valid.{is_name, other_length, member_fits, structure_fits, zeros_last, product, is_bool_array}
use Rattle.definition.specs.Breach.{name_length, name_bytes, has_elements}
use Rattle.definition.proofs.Lengths.{three, zeros_three}
use Rattle.definition.proofs.OtherNames.{by_tests_lem}
use Rattle.rows.specs.Judged.{zeros_last3, product3}

-- ---- three lengths

nonzero_three : (ns : List ℕ) → nonzero (take 3 ns) ≡ nonzero (three ns)
nonzero_three [] = refl
nonzero_three (a ∷ []) = refl
nonzero_three (a ∷ b ∷ []) = refl
nonzero_three (a ∷ b ∷ c ∷ ns) = refl

zeros_last_lem : (a b c : ℕ) → zeros_last (a ∷ b ∷ c ∷ []) ≡ zeros_last3 a b c
unfolding zeros_last every
zeros_last_lem a b c = by_test (eqb c 0) (λ v. rw v) (λ v. rw v)

product_of : (a b c : ℕ) → product (nonzero (a ∷ b ∷ c ∷ [])) ≡ product3 a b c
product_of a b c =
    by_test (eqb a 0) (λ t. rw t)
    (λ t. by_test (eqb b 0) (λ u. simp (t, u, mul-one)) (λ u. by_test (eqb c 0) (λ v. simp (t, u, v, mul-one)) (λ v. simp (t, u, v, mul-one, mul_assoc))))

one_length : (a b c : ℕ) → eqb (length (nonzero (a ∷ b ∷ c ∷ []))) 1 ≡ both (not (eqb a 0)) (eqb b 0)
one_length a b c =
    by_test (eqb a 0) (λ t. rw t) (λ t. by_test (eqb b 0) (λ u. simp (t, u)) (λ u. by_test (eqb c 0) (λ v. simp (t, u, v)) (λ v. simp (t, u, v))))

-- T5 of a tag by its numbers: an answer that is the test of the numbers is that of the list
pub lengths_by : (r : Row) (v : Bool) → v ≡ zeros_last3 (field 5 r) (field 6 r) (field 7 r) → v ≡ zeros_last (tag_lengths r)
lengths_by r v e = e ∙ sym (rw (zeros_three (drop 5 r), zeros_last_lem) (simp get_or-drop))

pub bool_array_by : (r : Row) (v : Bool)
    → v ≡ both (eqb (tag_type r) DWORD) (both (not (eqb (field 5 r) 0)) (both (eqb (field 6 r) 0) (eqb (tag_elements r * 32) (field 5 r))))
    → v ≡ is_bool_array r
unfolding is_bool_array
bool_array_by r v e = rw (nonzero_three (drop 5 r), one_length, both_assoc) (e ∙ sym (simp get_or-drop))

pub elements_by : (r : Row) (v : Bool)
    → v ≡ either (eqb (tag_elements r) (product3 (field 5 r) (field 6 r) (field 7 r))) (is_bool_array r) → v ≡ has_elements r
unfolding has_elements
elements_by r v e = rw (nonzero_three (drop 5 r), product_of) (e ∙ sym (simp get_or-drop))

-- ---- tests that the code makes in other groups

pub is_name_by : (name : List ℕ) (v : Bool) → v ≡ both (name_length name) (name_bytes name) → v ≡ is_name name
unfolding is_name name_length name_bytes
is_name_by name v e = e ∙ both_assoc (ltb 0 (length name)) (leb (length name) 40) (name_bytes name)

pub structure_fits_by : (structures members : List Row) (templates i : ℕ) (r : Row) (v : Bool) →
    v ≡ both (both (ltb 0 (structure_size r)) (leb (structure_size r) 65535))
    (both (leb (template_start r + template_length r) templates) (every (member_fits structures i (structure_size r)) (members_in members r)))
    → v ≡ structure_fits structures members templates i r
unfolding structure_fits
structure_fits_by structures members templates i r v e = e ∙ both_assoc (ltb 0 (structure_size r)) (leb (structure_size r) 65535) _

-- by any of the prefixes, as none has a higher limit than those before it
by_any : (p r t a b : Bool) → (a ≡ false → b ≡ false) → pick p a (pick r a (pick t b false)) ≡ either (both p a) (either (both r a) (either (both t b) false))
by_any true r t true b f = refl
by_any false true t true b f = refl
by_any false false true true true f = refl
by_any false false true true false f = refl
by_any false false false true b f = refl
by_any p r t false b f = simp (f refl, both-none, neither)
  where
    neither : (b : Bool) → pick b false false ≡ false
    neither true = refl
    neither false = refl

abbrev pub behind : (name prefix : List ℕ) → Bool
behind name prefix = both (starts_with prefix name) (leb (length name) (length prefix + 40))

pub other_length_by : (name : List ℕ) → other_length name ≡ either (name_length name)
    (some_of (behind name) (program_prefix ∷ routine_prefix ∷ task_prefix ∷ []))
unfolding some_of
other_length_by name =
    by_tests_lem name ∙ by_test (name_length name) (λ e. rw e)
    (λ e. rw e (by_any (starts_with program_prefix name) (starts_with routine_prefix name) (starts_with task_prefix name) (leb (length name) 48)
    (leb (length name) 45) (λ f. lt-leb (length name) 45 (omega (arith, leb-false (length name) 48 f)))))
