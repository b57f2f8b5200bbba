-- A test of each element of a list, also with its index, of each two elements, and of some element; and what stands before the first that passes one.
use Rattle.std.specs.Prelude.{Bool, true, false, List, [], ◌∷◌, ℕ, suc}
use Rattle.laws.specs.Pick.{pick, both, either}

unfoldable pub every : {A : Type 0} → (A → Bool) → List A → Bool
every p [] = true
every p (x ∷ xs) = both (p x) (every p xs)

-- with each element's index, the first counted as i
unfoldable pub every_from : {A : Type 0} → (ℕ → A → Bool) → ℕ → List A → Bool
every_from p i [] = true
every_from p i (x ∷ xs) = both (p i x) (every_from p (suc i) xs)

unfoldable pub some_of : {A : Type 0} → (A → Bool) → List A → Bool
some_of p [] = false
some_of p (x ∷ xs) = either (p x) (some_of p xs)

-- each element against each that stands after it
unfoldable pub pairs : {A : Type 0} → (A → A → Bool) → List A → Bool
pairs p [] = true
pairs p (x ∷ xs) = both (every (p x) xs) (pairs p xs)

-- the elements before the first that passes the test, all where none does
unfoldable pub stretch : {A : Type 0} → (A → Bool) → List A → List A
stretch p [] = []
stretch p (x ∷ xs) = pick (p x) [] (x ∷ stretch p xs)
