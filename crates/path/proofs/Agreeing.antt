-- Two lists that are as long, compared pair by pair: by what `all` says of the pairs, the answer is whether the lists agree.
-- Assumes nothing.
use mathlib.Core.Path.{◌≡◌, refl, sym}
use mathlib.Core.Bool.{Bool, true, false}
use mathlib.Core.List.{List, [], ◌∷◌}
use Prim.Native.Nat.{ℕ, zero, suc, ◌<◌}
use native.Mathlib.Omega.{arith}
use lib.ListN.{length}
use Rattle.std.specs.List.{AllWithin, HoldsAt, zip}
use Rattle.std.specs.Bool.{MatchBool}
use Rattle.laws.specs.Zip.{agree}
use Rattle.laws.proofs.Chain.{both_on, both_off, both_off_2}

module _ {A B : Type 0} (p : A → B → Bool) where
  all_agree : (a : List A) (b : List B) → length a ≡ length b → AllWithin (λ (q : A × B). p q.0 q.1 ≡ true) (zip a b) 0 (length (zip a b)) → agree p a b ≡ true
  unfolding agree
  all_agree [] [] e h = refl
  all_agree [] (y ∷ ys) e h = absurd (omega arith)
  all_agree (x ∷ xs) [] e h = absurd (omega arith)
  all_agree (x ∷ xs) (y ∷ ys) e h =
      both_on _ _ (h 0 (x, y) (omega arith) (omega arith)) (all_agree xs ys (omega arith) (λ k d l g. h (suc k) d (omega arith) (omega arith)))

  one_differs : (a : List A) (b : List B) (k : ℕ) → k < length (zip a b) → HoldsAt (λ (q : A × B). p q.0 q.1 ≡ false) (zip a b) k → agree p a b ≡ false
  unfolding agree
  one_differs [] b k h f = absurd (omega arith)
  one_differs (x ∷ xs) [] k h f = absurd (omega arith)
  one_differs (x ∷ xs) (y ∷ ys) zero h f = both_off _ _ (f (x, y))
  one_differs (x ∷ xs) (y ∷ ys) (suc k) h f = both_off_2 _ _ (one_differs xs ys k (omega arith) f)

  pub agree_by : (r : Bool) (a : List A) (b : List B) → length a ≡ length b
      → MatchBool r (AllWithin (λ (q : A × B). p q.0 q.1 ≡ true) (zip a b) 0 (length (zip a b)))
      ((k : ℕ) × (k < length (zip a b)) × HoldsAt (λ (q : A × B). p q.0 q.1 ≡ false) (zip a b) k)
      → r ≡ agree p a b
  agree_by true a b e m = sym (all_agree a b e m)
  agree_by false a b e m = sym (one_differs a b m.0 m.1 m.2)
