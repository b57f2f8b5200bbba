-- Lists of entries: their bytes, and what fits.
-- Assumes nothing.
use mathlib.Core.Path.{◌≡◌, refl, ap}
use mathlib.Core.Bool.{false}
use mathlib.Core.List.{List, [], ◌∷◌, ◌++◌, append_assoc}
use Prim.Native.Nat.{ℕ, zero, suc, ◌-◌, ◌≤◌, ◌<◌}
use native.Mathlib.Omega.{arith}
use lib.Dec.{leb}
use lib.ListN.{length, take, length-append}
use borrow.Author.Tests.{le-leb, le-ltb}
use Rattle.laws.specs.Sorted.{All}
use Rattle.laws.proofs.Chain.{pick_all}
use Rattle.definition.specs.Page.{Entry, bytes_of, fitting, first_unfit}

-- ---- bytes

pub bytes-append : (xs ys : List Entry) → bytes_of (xs ++ ys) ≡ bytes_of xs ++ bytes_of ys
unfolding bytes_of
bytes-append [] ys = refl
bytes-append (x ∷ xs) ys = rw (bytes-append xs ys, append_assoc)

pub bytes-some : (es : List Entry) → All (λ e. 0 < length e.bytes) es → (n : ℕ) → 0 < n → 0 < length es → 0 < length (bytes_of (take n es))
unfolding bytes_of
bytes-some [] a n p l = absurd (omega arith)
bytes-some (e ∷ es) a zero p l = absurd (omega arith)
bytes-some (e ∷ es) a (suc n) p l = omega (arith, length-append e.bytes (bytes_of (take n es)), a.0)

-- the number of entries is known by their bytes
pub bytes_count : (es : List Entry) → All (λ e. 0 < length e.bytes) es → (i j : ℕ) → i ≤ length es → j ≤ length es
    → length (bytes_of (take i es)) ≡ length (bytes_of (take j es)) → i ≡ j
unfolding bytes_of
bytes_count [] a i j l k q = omega arith
bytes_count (e ∷ es) a zero zero l k q = refl
bytes_count (e ∷ es) a zero (suc j) l k q = absurd (omega (arith, bytes-some (e ∷ es) a (suc j) (omega arith) (omega arith)))
bytes_count (e ∷ es) a (suc i) zero l k q = absurd (omega (arith, bytes-some (e ∷ es) a (suc i) (omega arith) (omega arith)))
bytes_count (e ∷ es) a (suc i) (suc j) l k q =
    ap suc (bytes_count es a.1 i j (omega arith) (omega arith)
    (omega (arith, length-append e.bytes (bytes_of (take i es)), length-append e.bytes (bytes_of (take j es)))))

-- ---- what fits

pub fitting_le : (space : ℕ) (es : List Entry) → fitting space es ≤ length es
unfolding fitting
fitting_le space [] = omega arith
fitting_le space (e ∷ es) =
    let r = fitting_le (space - length e.bytes) es in
    pick_all (λ (n : ℕ). n ≤ suc (length es)) (leb (length e.bytes) space) (omega arith) (omega arith)

pub fitting-some : (space : ℕ) (es : List Entry) → All (λ e. length e.bytes ≤ space) es → 0 < length es → 0 < fitting space es
unfolding fitting
fitting-some space [] a l = absurd (omega arith)
fitting-some space (e ∷ es) a l = rw (le-leb (length e.bytes) space a.0) (omega arith)

pub fits_first : (space : ℕ) (es : List Entry) → All (λ e. length e.bytes ≤ space) es → first_unfit space es ≡ false
unfolding first_unfit
fits_first space [] a = refl
fits_first space (e ∷ es) a = le-ltb space (length e.bytes) a.0
