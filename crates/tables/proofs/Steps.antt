-- What is told first, over a test's rows and over the other table's rows.
-- Assumes nothing.
use mathlib.Core.Path.{◌≡◌, refl, ◌∙◌, ap}
use mathlib.Core.Bool.{not}
use mathlib.Core.List.{List, [], ◌∷◌}
use Rattle.std.specs.Prelude.{Option, None, Some}
use Prim.Native.Nat.{ℕ, ◌-◌}
use native.Mathlib.Omega.{arith}
use Rattle.std.specs.List.{find, range_with_len}
use Rattle.std.specs.Option.{MatchOption, IsSomeAnd, option_map}
use Rattle.laws.proofs.Chain.{by_test}
use Rattle.laws.proofs.Mapped.{first_in, first_in_range}
use Rattle.tables.specs.declared.rules.Breach.{Breach as Told}
use Rattle.tables.specs.Rules.{told_of, breach_of}
use Rattle.definition.specs.Breach.{Breach, Test, tell, told_of as told_at, row_breach, test_breach}

pub others_told : (x : Test) (e : ℕ) (r : Option Breach) → e ≡ x.others → r ≡ first_in (row_breach x) (range_with_len 0 (e - 0)) → r ≡ test_breach x
unfolding test_breach
others_told x e r p q = let n : e - 0 ≡ x.others = omega (arith, p) in q ∙ first_in_range (row_breach x) 0 (e - 0) ∙ rw n refl

module _ (x : Test) (i : ℕ) where
  -- what is told of a row that a search found
  abbrev of_row : Option ℕ → Option Breach
  of_row None = None
  of_row (Some j) = Some (tell x i j)

  found_told : (js : List ℕ) → of_row (find (λ j. not (x.holds i j)) js) ≡ first_in (told_at x i) js
  found_told [] = refl
  found_told (j ∷ js) = by_test (x.holds i j) (λ t. rw t (found_told js)) (λ t. rw t refl)

  told_by : (r : Option ℕ) (m : Option Told) {P : ℕ → Told → Type 0} → MatchOption r (m ≡ None) (λ j. IsSomeAnd m (P j))
      → ((j : ℕ) (b : Told) → P j b → breach_of b ≡ tell x i j) → told_of m ≡ of_row (option_map (λ j. j) r)
  told_by None m e f = rw e refl
  told_by (Some j) None e f = absurd e
  told_by (Some j) (Some b) e f = ap Some (f j b e)

  pub rows_told : (a e : ℕ) (r : Option ℕ) (m : Option Told) {P : ℕ → Told → Type 0} → a ≡ x.from i → e ≡ x.upto i
      → option_map (λ j. j) r ≡ find (λ j. not (x.holds i j)) (range_with_len a (e - a))
      → MatchOption r (m ≡ None) (λ j. IsSomeAnd m (P j)) → ((j : ℕ) (b : Told) → P j b → breach_of b ≡ tell x i j) → told_of m ≡ row_breach x i
  unfolding row_breach
  rows_told a e r m p q found is f =
      told_by r m is f ∙ ap of_row found ∙ found_told (range_with_len a (e - a)) ∙ first_in_range (told_at x i) a (e - a) ∙ rw (p, q) refl
