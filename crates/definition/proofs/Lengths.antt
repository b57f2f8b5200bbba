-- A tag's three lengths as numbers: where they are not zeros last, a length of 0 has a length behind it.
-- Assumes nothing.
use mathlib.Core.Path.{◌≡◌, refl, sym, ◌∙◌}
use mathlib.Core.Logic.{◌⊎◌, inl, inr}
use mathlib.Core.Bool.{true, false}
use mathlib.Core.List.{List, [], ◌∷◌}
use Prim.Native.Nat.{ℕ, ◌<◌}
use native.Mathlib.Omega.{arith}
use lib.Dec.{eqb}
use lib.ListN.{get_or, take, drop}
use lib.Seq.{get_or-drop}
use borrow.Author.Tests.{eqb-true, eqb-false}
use Rattle.laws.specs.Pick.{both}
use Rattle.laws.specs.Tests.{every}
use Rattle.laws.proofs.Chain.{by_test, clash}
use Rattle.laws.proofs.Tests.{both_fails}
use Rattle.definition.specs.Tables.{Row, tag_lengths}
use Rattle.definition.specs.Valid.{zeros_last}
use Rattle.definition.specs.Told.{ZeroBetween}

-- a row that ends earlier has zeros there
abbrev pub three : List ℕ → List ℕ
three ns = get_or ns 0 0 ∷ get_or ns 1 0 ∷ get_or ns 2 0 ∷ []

pub zeros_three : (ns : List ℕ) → zeros_last (take 3 ns) ≡ zeros_last (three ns)
unfolding zeros_last every
zeros_three [] = refl
zeros_three (a ∷ []) = refl
zeros_three (a ∷ b ∷ []) = refl
zeros_three (a ∷ b ∷ c ∷ ns) = refl

some_last : (c : ℕ) → both (eqb c 0) true ≡ false → 0 < c
some_last c e = both_fails (eqb c 0) true e (λ p. omega (arith, eqb-false c 0 p)) (λ p. clash (cc))

zero-before : (a b c : ℕ) → zeros_last (a ∷ b ∷ c ∷ []) ≡ false → ((a ≡ 0) × ((0 < b) ⊎ (0 < c))) ⊎ ((b ≡ 0) × (0 < c))
unfolding zeros_last every
zero-before a b c e =
    by_test (eqb a 0)
    (λ p. inl (eqb-true a 0 p, both_fails (eqb b 0) _ (rw p at e) (λ q. inl (omega (arith, eqb-false b 0 q))) (λ q. inr (some_last c q))))
    (λ p. by_test (eqb b 0) (λ q. inr (eqb-true b 0 q, some_last c (rw (p, q) at e)))
    (λ q. by_test (eqb c 0) (λ r. clash (cc (rw (p, q, r) at e))) (λ r. clash (cc (rw (p, q, r) at e)))))

pub zero-between : (r : Row) → zeros_last (tag_lengths r) ≡ false → ZeroBetween r
zero-between r e = simp get_or-drop at (zero-before _ _ _ (sym (zeros_three (drop 5 r)) ∙ e))
