-- Two lists that are as long and agree place by place.
use Rattle.std.specs.Prelude.{List, [], ◌∷◌, Bool, true, false}
use Rattle.laws.specs.Pick.{both}

unfoldable pub agree : {A B : Type 0} → (A → B → Bool) → List A → List B → Bool
agree p [] [] = true
agree p [] (y ∷ ys) = false
agree p (x ∷ xs) [] = false
agree p (x ∷ xs) (y ∷ ys) = both (p x y) (agree p xs ys)
