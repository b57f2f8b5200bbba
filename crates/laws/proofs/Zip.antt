-- A loop that compares two lists of one length: the invariant is `agree p (drop i a) (drop i b) ≡ agree p a b`, with `length a ≡ length b`.
-- Assumes nothing.
use mathlib.Core.Path.{◌≡◌, refl, sym, ap, ap₂, ◌∙◌}
use mathlib.Core.Bool.{Bool, true, false}
use mathlib.Core.List.{List, [], ◌∷◌}
use Prim.Native.Nat.{ℕ, zero, suc, ◌+◌, ◌<◌, ◌≤◌}
use native.Mathlib.Numerals.{add-one}
use native.Mathlib.Omega.{arith}
use lib.Dec.{eqb}
use lib.ListN.{length, get_or, take, drop, drop_of_length-le}
use lib.Seq.{drop-cons}
use borrow.Author.Tests.{eqb-true}
use Rattle.laws.specs.Pick.{both}
use Rattle.laws.specs.Zip.{agree}
use Rattle.laws.proofs.Chain.{clash}
use Rattle.laws.proofs.Tests.{both-none, both_true, both_assoc}

both_false : (t : Bool) {u : Bool} → false ≡ u → false ≡ both t u
both_false true e = e
both_false false e = refl

both-all : (t : Bool) → both t true ≡ t
both-all true = refl
both-all false = refl

pub agree-length : {A B : Type 0} (p : A → B → Bool) (a : List A) (b : List B) → (length a ≡ length b → ⊥) → false ≡ agree p a b
unfolding agree
agree-length p [] [] h = absurd (h refl)
agree-length p [] (y ∷ ys) h = refl
agree-length p (x ∷ xs) [] h = refl
agree-length p (x ∷ xs) (y ∷ ys) h = both_false (p x y) (agree-length p xs ys (λ e. h (ap suc e)))

-- two lists of numbers that agree are one
pub agree_same : (a b : List ℕ) → agree eqb a b ≡ true → a ≡ b
unfolding agree
agree_same [] [] e = refl
agree_same [] (y ∷ ys) e = clash (cc e)
agree_same (x ∷ xs) [] e = clash (cc e)
agree_same (x ∷ xs) (y ∷ ys) e =
    let h = both_true (eqb x y) (agree eqb xs ys) e in
    ap₂ ◌∷◌ (eqb-true x y h.0) (agree_same xs ys h.1)

-- two lists in two parts each, the second ones compared first
agree_split : {A B : Type 0} (p : A → B → Bool) (m : ℕ) (a : List A) (b : List B)
    → agree p a b ≡ both (agree p (take m a) (take m b)) (agree p (drop m a) (drop m b))
unfolding agree
agree_split p zero a b = refl
agree_split p (suc m) [] [] = refl
agree_split p (suc m) [] (y ∷ ys) = refl
agree_split p (suc m) (x ∷ xs) [] = refl
agree_split p (suc m) (x ∷ xs) (y ∷ ys) = ap (both (p x y)) (agree_split p m xs ys) ∙ sym (both_assoc (p x y) _ _)

module _ {A B : Type 0} (p : A → B
    → Bool) (m : ℕ) (a x : List A) (b y : List B) (x-is : x ≡ drop m a) (y-is : y ≡ drop m b) (r : Bool) (is : r ≡ agree p x y) where
  pub agree_first : (s : Bool) → r ≡ true → s ≡ agree p (take m a) (take m b) → s ≡ agree p a b
  agree_first s e f = f ∙ sym (agree_split p m a b ∙ rw (← x-is, ← y-is, ← is, e) (both-all _))

  pub agree-second : r ≡ false → false ≡ agree p a b
  agree-second e = sym (agree_split p m a b ∙ rw (← x-is, ← y-is, ← is, e, both-none))

module _ {A B : Type 0} (p : A → B
    → Bool) (d : A) (f : B) (i : ℕ) (a : List A) (b : List B) (here : agree p (drop i a) (drop i b) ≡ agree p a b) (long : length a ≡ length b) where
  pub agree_next : {r : Bool} {j : ℕ} → i < length a → r ≡ p (get_or a i d) (get_or b i f) → r ≡ true → j ≡ i + 1 → agree p (drop j a) (drop j b) ≡ agree p a b
  unfolding agree
  agree_next h e y t = let k : i < length b = omega arith in rw (t, add-one) (rw (drop-cons a i d, drop-cons b i f, ← e, y) at here)

  pub agree_stop : {r : Bool} → i < length a → r ≡ p (get_or a i d) (get_or b i f) → r ≡ false → false ≡ agree p a b
  unfolding agree
  agree_stop h e n = let k : i < length b = omega arith in rw (drop-cons a i d, drop-cons b i f, ← e, n) at here

  pub agree_end : length a ≤ i → true ≡ agree p a b
  unfolding agree
  agree_end h = let k : length b ≤ i = omega arith in rw (drop_of_length-le a h, drop_of_length-le b k) at here

pub ruleset agrees = (agree-length, agree_next, agree_stop, agree_end)
