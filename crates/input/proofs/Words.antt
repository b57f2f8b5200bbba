-- Texts that are compared, as std's word for `==` and as the definition has it.
-- Assumes nothing.
use mathlib.Core.Path.{◌≡◌, refl, ◌∙◌}
use mathlib.Core.Bool.{Bool}
use mathlib.Core.List.{List, [], ◌∷◌}
use Prim.Native.Nat.{ℕ}
use lib.Dec.{eqb}
use Rattle.std.specs.Cmp.Lexicographic.{pointwise}
use Rattle.laws.specs.Zip.{agree}
use Rattle.laws.proofs.Chain.{by_test, chain, by_call}

pub same_text : (a b : List ℕ) → pointwise eqb a b ≡ agree eqb a b
unfolding agree
same_text [] [] = refl
same_text [] (y ∷ ys) = refl
same_text (x ∷ xs) [] = refl
same_text (x ∷ xs) (y ∷ ys) = by_test (eqb x y) (λ t. rw t (same_text xs ys)) (λ t. rw t refl)

pub agree_by : (r : Bool) (a b : List ℕ) → r ≡ pointwise eqb a b → r ≡ agree eqb a b
agree_by r a b e = e ∙ same_text a b

pub ruleset words = (agree_by, chain, by_call)
