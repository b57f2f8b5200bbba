-- The items of a text, each of which starts where the one before it ends, and a state that is led over them.
use Rattle.std.specs.Prelude.{ℕ, zero, suc, List, [], ◌∷◌, ltb, eqb}
use Rattle.std.specs.Prelude.{Option, None, Some}
use Rattle.laws.specs.Pick.{pick}

abbrev pub before : {A : Type 0} → A → Option (List A) → Option (List A)
before a None = None
before a (Some l) = Some (a ∷ l)

-- f reads the item at a position, and next says where it ends, 0 where it is none. The first number bounds how many items there are: the text's length is
-- enough.
unfoldable pub items : {A : Type 0} → (ℕ → A) → (A → ℕ) → ℕ → ℕ → ℕ → Option (List A)
items f next zero e at = pick (ltb at e) None (Some [])
items f next (suc m) e at =
    pick (ltb at e) (pick (eqb (next (f at)) 0) None (before (f at) (items f next m e (next (f at))))) (Some [])

unfoldable pub each : {A S : Type 0} → (A → S → S) → S → List A → S
each g s [] = s
each g s (a ∷ l) = each g (g a s) l

-- the state after all items, or bad where one is none
unfoldable pub over : {A S R : Type 0} → (A → S → S) → (S → R) → R → S → Option (List A) → R
over g done bad s None = bad
over g done bad s (Some l) = done (each g s l)
