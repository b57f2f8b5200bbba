-- A list folded from its end, element by element: its last one comes first.
-- Assumes nothing.
use mathlib.Core.Path.{◌≡◌, ap, ◌∙◌}
use mathlib.Core.List.{List, [], ◌∷◌}
use Prim.Native.Nat.{ℕ, suc, ◌+◌}
use native.Mathlib.Omega.{arith}
use lib.ListN.{length}
use Rattle.std.specs.List.{push}
use Rattle.laws.specs.Fold.{fold}

pub fold_push : {A S : Type 0} (f : ℕ → A → S → S) (z : S) (i : ℕ) (xs : List A) (x : A)
    → fold f z i (push xs x) ≡ fold f (f (i + length xs) x z) i xs
unfolding fold
fold_push f z i [] x = let e : i + 0 ≡ i = omega arith in rw e
fold_push f z i (y ∷ ys) x =
    let e : suc i + length ys ≡ i + suc (length ys) = omega arith in
    ap (f i y) (fold_push f z (suc i) ys x ∙ rw e)
