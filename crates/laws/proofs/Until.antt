-- A value that is led on until it is done: where it is done, and one turn more.
-- Assumes nothing.
use mathlib.Core.Path.{◌≡◌, refl}
use mathlib.Core.Bool.{Bool, true, false}
use Prim.Native.Nat.{ℕ, zero, suc, ◌≤◌, ◌<◌}
use native.Mathlib.Omega.{arith}
use Rattle.laws.specs.Until.{until}
use Rattle.laws.proofs.Chain.{by_test}

module _ {A : Type 0} (done : A → Bool) (next : A → A) where
  pub until-done : (n : ℕ) (x : A) → done x ≡ true → until done next n x ≡ x
  unfolding until
  until-done zero x e = refl
  until-done (suc n) x e = rw e

  -- a measure that falls with each turn from a value that is not done, as long as the values are good
  module _ (Good : A → Type 0) (measure : A → ℕ) (turn : (x : A) → Good x → done x ≡ false → Good (next x) × (measure (next x) < measure x)) where
    -- any number of turns that is at least the measure gives the same
    enough : (m n : ℕ) (x : A) → Good x → measure x ≤ m → measure x ≤ n → until done next m x ≡ until done next n x
    unfolding until
    enough zero zero x g h l = refl
    enough zero (suc n) x g h l = by_test (done x) (λ t. rw t) (λ t. absurd (omega (arith, (turn x g t).1)))
    enough (suc m) zero x g h l = by_test (done x) (λ t. rw t) (λ t. absurd (omega (arith, (turn x g t).1)))
    enough (suc m) (suc n) x g h l =
        by_test (done x) (λ t. rw t)
        (λ t. let s = turn x g t in
        rw (enough m n (next x) s.0 (omega (arith, s.1)) (omega (arith, s.1))))

    pub until_more : (n : ℕ) (x : A) → Good x → done x ≡ false → measure x ≤ n → until done next n x ≡ until done next (measure (next x)) (next x)
    unfolding until
    until_more zero x g e h = absurd (omega (arith, (turn x g e).1))
    until_more (suc n) x g e h = let s = turn x g e in rw e (enough n (measure (next x)) (next x) s.0 (omega (arith, s.1)) (omega arith))
