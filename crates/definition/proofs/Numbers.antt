-- The numbers of a list by their index, and how many there are.
-- Assumes nothing.
use mathlib.Core.Path.{◌≡◌, refl, ap, ◌∙◌}
use mathlib.Core.List.{List}
use Prim.Native.Nat.{ℕ, zero, suc, ◌+◌, ◌*◌, ◌<◌}
use native.Mathlib.Omega.{arith}
use lib.ListN.{length, get_or, drop}
use lib.Seq.{get_or-drop}
use Rattle.definition.specs.Bytes.{u16_at, numbers}

pub u16_drop : (s : List ℕ) (a k j : ℕ) → j ≡ a + k → u16_at (drop a s) k ≡ u16_at s j
u16_drop s a k j e =
    let d : a + (k + 1) ≡ j + 1 = omega arith in
    rw (get_or-drop a s k 0, get_or-drop a s (k + 1) 0, d, ← e)

pub numbers_long : (n : ℕ) (s : List ℕ) → length (numbers n s) ≡ n
unfolding numbers
numbers_long zero s = refl
numbers_long (suc n) s = ap suc (numbers_long n (drop 2 s))

pub numbers_at : (n : ℕ) (s : List ℕ) (i d : ℕ) → i < n → get_or (numbers n s) i d ≡ u16_at s (2 * i)
unfolding numbers
numbers_at zero s i d h = absurd (omega arith)
numbers_at (suc n) s zero d h = refl
numbers_at (suc n) s (suc i) d h = numbers_at n (drop 2 s) i d (omega arith) ∙ u16_drop s 2 (2 * i) (2 * suc i) (omega arith)
