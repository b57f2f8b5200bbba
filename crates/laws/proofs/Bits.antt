-- OR and AND of numbers: OR is associative, OR goes over AND, two masks in a row are one, zeros with all ones change no byte.
-- By induction on binary digits; of all numbers, where no byte is asked for.
-- Assumes nothing.
use mathlib.Core.Path.{◌≡◌, sym, ap, ap₂, ◌∙◌}
use Prim.Native.Nat.{ℕ, ◌+◌, ◌*◌, ◌/◌, ◌%◌, ◌<◌, min, max}
use native.Mathlib.Nat.{mod-lt, zero-lt-suc}
use native.Mathlib.Omega.{arith}
use lib.Arith.{bin_ind, digits_mod}
use lib.Bits.{bit_and, bit_or, and_step, or_step, and_shr, or_shr, or_zero_l, or_zero_r, and_comm, and_mask, or_add_and}
use Rattle.std.proofs.lemmas.Nat.{and_assoc}

-- ---- the halves and the lowest digits of both

low : (a : ℕ) → a % 2 < 2
low a = mod-lt a (zero-lt-suc 1)

max_low : (x y : ℕ) → x < 2 → y < 2 → max x y < 2
max_low x y h k = omega arith

min_low : (x y : ℕ) → x < 2 → y < 2 → min x y < 2
min_low x y h k = omega arith

or_low : (a b : ℕ) → bit_or a b % 2 ≡ max (a % 2) (b % 2)
or_low a b = ap (λ (x : ℕ). x % 2) (or_step a b) ∙ digits_mod (bit_or (a / 2) (b / 2)) (max_low (a % 2) (b % 2) (low a) (low b))

and_low : (a b : ℕ) → bit_and a b % 2 ≡ min (a % 2) (b % 2)
and_low a b = ap (λ (x : ℕ). x % 2) (and_step a b) ∙ digits_mod (bit_and (a / 2) (b / 2)) (min_low (a % 2) (b % 2) (low a) (low b))

-- two numbers from their halves and their lowest digits
pieces : {r r' c c' : ℕ} → r ≡ r' → c ≡ c' → r * 2 + c ≡ r' * 2 + c'
pieces p q = ap₂ (λ (x y : ℕ). x * 2 + y) p q

max_three : (x y z : ℕ) → max (max x y) z ≡ max x (max y z)
max_three x y z = omega arith

max_over_min : (x a o : ℕ) → max (min x a) o ≡ min (max x o) (max a o)
max_over_min x a o = omega arith

-- ---- the laws

pub or_assoc : (a b c : ℕ) → bit_or (bit_or a b) c ≡ bit_or a (bit_or b c)
or_assoc =
    bin_ind (λ (n : ℕ). (b c : ℕ) → bit_or (bit_or n b) c ≡ bit_or n (bit_or b c))
    (λ b c. ap (λ (x : ℕ). bit_or x c) (or_zero_l b) ∙ sym (or_zero_l (bit_or b c)))
    (λ n ih b c. or_step (bit_or n b) c
    ∙ pieces (ap (λ (x : ℕ). bit_or x (c / 2)) (or_shr n b 1) ∙ ih (b / 2) (c / 2) ∙ ap (bit_or (n / 2)) (sym (or_shr b c 1)))
    (ap (λ (x : ℕ). max x (c % 2)) (or_low n b) ∙ max_three (n % 2) (b % 2) (c % 2) ∙ ap (max (n % 2)) (sym (or_low b c)))
    ∙ sym (or_step n (bit_or b c)))

-- OR goes over AND from the right
pub or_over_and : (x a o : ℕ) → bit_or (bit_and x a) o ≡ bit_and (bit_or x o) (bit_or a o)
or_over_and x a o = bin_ind (λ (n : ℕ). (x a : ℕ) → bit_or (bit_and x a) n ≡ bit_and (bit_or x n) (bit_or a n))
    (λ x a. or_zero_r (bit_and x a) ∙ sym (ap₂ bit_and (or_zero_r x) (or_zero_r a)))
    (λ n ih x a. or_step (bit_and x a) n
    ∙ pieces (ap (λ (y : ℕ). bit_or y (n / 2)) (and_shr x a 1) ∙ ih (x / 2) (a / 2) ∙ sym (ap₂ bit_and (or_shr x n 1) (or_shr a n 1)))
    (ap (λ (y : ℕ). max y (n % 2)) (and_low x a) ∙ max_over_min (x % 2) (a % 2) (n % 2) ∙ sym (ap₂ min (or_low x n) (or_low a n)))
    ∙ sym (and_step (bit_or x n) (bit_or a n)))
    o x a

-- ---- masks: OR first, then AND

-- two masks in a row are one
pub mask_again : (b o₁ a₁ o₂ a₂ : ℕ) → bit_and (bit_or (bit_and (bit_or b o₁) a₁) o₂) a₂ ≡ bit_and (bit_or b (bit_or o₁ o₂)) (bit_and (bit_or a₁ o₂) a₂)
mask_again b o₁ a₁ o₂ a₂ =
    ap (λ (x : ℕ). bit_and x a₂) (or_over_and (bit_or b o₁) a₁ o₂ ∙ ap (λ (x : ℕ). bit_and x (bit_or a₁ o₂)) (or_assoc b o₁ o₂))
    ∙ and_assoc a₂ (bit_or b (bit_or o₁ o₂)) (bit_or a₁ o₂)

-- zeros with all ones leave a byte as it was
pub mask_nothing : (b : ℕ) → b < 256 → bit_and (bit_or b 0) 255 ≡ b
mask_nothing b h =
    let m : b % 256 ≡ b = omega arith in
    ap (λ (x : ℕ). bit_and x 255) (or_zero_r b) ∙ and_mask b 8 ∙ m

-- all ones, masked, are the AND mask
pub ones_masked : (o a : ℕ) → o < 256 → a < 256 → bit_and (bit_or 255 o) a ≡ a
ones_masked o a h k =
    let m : a % 256 ≡ a = omega arith in
    let n : o % 256 ≡ o = omega arith in
    let e : bit_or 255 o ≡ 255 = omega (arith, or_add_and 255 o, and_comm 255 o, and_mask o 8) in
    ap (λ (x : ℕ). bit_and x a) e ∙ and_comm 255 a ∙ and_mask a 8 ∙ m
