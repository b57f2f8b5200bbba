-- The numbers of a fragment: one case split for each test of the definitions, and what follows by linear arithmetic.
-- Assumes nothing.
use mathlib.Core.Path.{◌≡◌}
use Prim.Native.Nat.{ℕ, zero, suc, ◌+◌, ◌-◌, ◌*◌, ◌/◌, ◌≤◌, ◌<◌}
use native.Mathlib.Nat.{le-div_iff_mul-le}
use native.Mathlib.Omega.{arith}
use lib.Dec.{ltb, leb}
use borrow.Author.Tests.{ltb-true, ltb-false, leb-true, leb-false}
use Rattle.laws.proofs.Chain.{by_test}
use Rattle.definition.specs.Fragment.{rounded, size_of, status_of, div_up, reply_count}

-- ---- `rounded`

data Rounded (s : ℕ) : Type 0 where
  small : s < 4 → rounded s ≡ s → Rounded s
  floor : 4 ≤ s → rounded s ≡ s / 4 * 4 → Rounded s

rounds : (s : ℕ) → Rounded s
unfolding rounded
rounds s = by_test (ltb s 4) (λ e. small (ltb-true s 4 e) (rw e)) (λ e. floor (ltb-false s 4 e) (rw e))

pub rounded_positive : (s : ℕ) → 0 < s → 0 < rounded s
rounded_positive s p = go (rounds s)
  where
    go : Rounded s → 0 < rounded s
    go (small h e) = omega arith
    go (floor h e) = omega arith

pub rounded_le : (s : ℕ) → rounded s ≤ s
rounded_le s = go (rounds s)
  where
    go : Rounded s → rounded s ≤ s
    go (small h e) = omega arith
    go (floor h e) = omega arith

pub rounded_mono : (r s : ℕ) → r ≤ s → rounded r ≤ rounded s
rounded_mono r s h = go (rounds r) (rounds s)
  where
    go : Rounded r → Rounded s → rounded r ≤ rounded s
    go (small a e) (small b f) = omega arith
    go (small a e) (floor b f) = omega arith
    go (floor a e) (small b f) = omega arith
    go (floor a e) (floor b f) = omega arith

-- ---- a chunk is the rest, with status 0, or is cut, with status 6

pub data Cut (due s : ℕ) : Type 0 where
  whole : due ≤ s → size_of due s ≡ due → status_of due s ≡ 0 → Cut due s
  part : s < due → size_of due s ≡ rounded s → status_of due s ≡ 6 → Cut due s

pub cuts : (due s : ℕ) → Cut due s
unfolding size_of status_of
cuts due s = by_test (leb due s) (λ e. whole (leb-true due s e) (rw e) (rw e)) (λ e. part (leb-false due s e) (rw e) (rw e))

pub size_positive : (due s : ℕ) → 0 < due → 0 < s → 0 < size_of due s
size_positive due s d p = go (cuts due s)
  where
    go : Cut due s → 0 < size_of due s
    go (whole h e f) = omega arith
    go (part h e f) = omega (arith, rounded_positive s p)

pub size_le : (due s : ℕ) → size_of due s ≤ due
size_le due s = go (cuts due s)
  where
    go : Cut due s → size_of due s ≤ due
    go (whole h e f) = omega arith
    go (part h e f) = omega (arith, rounded_le s)

-- what is sent has room
pub size_fits : (due s : ℕ) → size_of due s ≤ s
size_fits due s = go (cuts due s)
  where
    go : Cut due s → size_of due s ≤ s
    go (whole h e f) = omega arith
    go (part h e f) = omega (arith, rounded_le s)

-- ---- the reply count

-- k replies with status 6, each of at least g bytes, at room of at least r: before the last of them more than r bytes were due
pub data Few (n g r : ℕ) : ℕ → Type 0 where
  none : Few n g r zero
  some : {j : ℕ} → j * g + r < n → Few n g r (suc j)

pub few-count : (n r k : ℕ) → 0 < r → Few n (rounded r) r k → suc k ≤ reply_count n r
unfolding reply_count
few-count n r zero p none = by_test (leb n r) (λ e. rw e (omega arith)) (λ e. rw e (omega arith))
few-count n r (suc j) p (some h) =
    by_test (leb n r) (λ e. absurd (omega (arith, leb-true n r e)))
    (λ e. let q : suc j ≤ div_up (n - r) (rounded r) =
    (le-div_iff_mul-le (rounded_positive r p)).1 (omega (arith, rounded_positive r p, leb-false n r e)) in
    rw e (omega arith))
