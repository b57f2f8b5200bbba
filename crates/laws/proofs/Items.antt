-- The items of a text from a position on: the one that stands there and those behind it, none where it is none, and nothing behind the end.
-- Assumes nothing.
use mathlib.Core.Path.{◌≡◌, refl, ap}
use mathlib.Core.List.{List, []}
use Rattle.std.specs.Prelude.{Option, None, Some}
use Prim.Native.Nat.{ℕ, zero, suc, ◌+◌, ◌<◌, ◌≤◌}
use native.Mathlib.Omega.{arith}
use lib.Dec.{eqb}
use borrow.Author.Tests.{lt-ltb, le-ltb, ne_eqb, eqb-false}
use Rattle.laws.specs.Items.{before, items, each, over}
use Rattle.laws.proofs.Chain.{by_test}

module _ {A S R : Type 0} (g : A → S → S) (done : S → R) (bad : R) where
  pub over-before : (s : S) (a : A) (m : Option (List A)) → over g done bad s (before a m) ≡ over g done bad (g a s) m
  unfolding over each
  over-before s a None = refl
  over-before s a (Some l) = refl

module _ {A : Type 0} (f : ℕ → A) (next : A → ℕ) (e : ℕ) (forward : (at : ℕ) → (next (f at) ≡ 0 → ⊥) → at < next (f at)) where
  -- any bound that is enough gives the same
  enough : (m k at : ℕ) → e ≤ at + m → e ≤ at + k → items f next m e at ≡ items f next k e at
  unfolding items
  enough zero zero at h l = refl
  enough zero (suc k) at h l = rw (le-ltb at e (omega arith))
  enough (suc m) zero at h l = rw (le-ltb at e (omega arith))
  enough (suc m) (suc k) at h l =
      by_test (eqb (next (f at)) 0) (λ t. rw t)
      (λ t. let p : at < next (f at) = forward at (eqb-false (next (f at)) 0 t) in
      rw (enough m k (next (f at)) (omega arith) (omega arith)))

  pub items_at : (k at : ℕ) → e ≤ k → at < e → (next (f at) ≡ 0 → ⊥) → items f next k e at ≡ before (f at) (items f next k e (next (f at)))
  unfolding items
  items_at zero at l h n = absurd (omega arith)
  items_at (suc m) at l h n =
      let p : at < next (f at) = forward at n in
      rw (lt-ltb at e h, ne_eqb (next (f at)) 0 n) (ap (before (f at)) (enough m (suc m) (next (f at)) (omega arith) (omega arith)))

  pub items_bad : (k at : ℕ) → e ≤ k → at < e → next (f at) ≡ 0 → items f next k e at ≡ None
  unfolding items
  items_bad zero at l h n = absurd (omega arith)
  items_bad (suc m) at l h n = rw (lt-ltb at e h, n)

  pub items_end : (k at : ℕ) → e ≤ at → items f next k e at ≡ Some []
  unfolding items
  items_end zero at h = rw (le-ltb at e h)
  items_end (suc m) at h = rw (le-ltb at e h)
