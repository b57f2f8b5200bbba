-- The first element of a list that passes a test.
use Rattle.std.specs.Prelude.{ℕ, suc, List, [], ◌∷◌, Bool}
use Rattle.laws.specs.Pick.{pick}

-- what `hit` says of the index of the first element that passes, the first of the list counted as i; `miss` where none does
unfoldable pub scan : {A R : Type 0} → (A → Bool) → (ℕ → R) → R → ℕ → List A → R
scan p hit miss i [] = miss
scan p hit miss i (x ∷ xs) = pick (p x) (hit i) (scan p hit miss (suc i) xs)
