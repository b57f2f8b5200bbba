-- What a test that came out true or false says of its parts and of the elements, what a scan can come to; what holds of each element, by `map` and `++`.
-- Assumes nothing.
use mathlib.Core.Path.{◌≡◌, refl, sym, ◌∙◌}
use mathlib.Core.Logic.{◌≢◌}
use mathlib.Core.Bool.{Bool, true, false}
use mathlib.Core.List.{List, [], ◌∷◌, ◌++◌, map}
use Prim.Native.Nat.{ℕ, zero, suc, ◌+◌, ◌-◌, ◌≤◌, ◌<◌, min}
use native.Mathlib.Numerals.{add-one}
use native.Mathlib.Omega.{arith}
use lib.ListN.{length, get_or, take, drop, length-take, length-drop}
use lib.Seq.{get_or-take, get_or-drop}
use Rattle.laws.specs.Pick.{pick, both, either, is_empty}
use Rattle.laws.specs.Scan.{scan}
use Rattle.laws.specs.Sorted.{All, Distinct}
use Rattle.laws.specs.Tests.{every, every_from, pairs, stretch}
use Rattle.laws.proofs.Chain.{pick_all, both_on, both_off_2, by_test, clash}

pub both_true : (t u : Bool) → both t u ≡ true → (t ≡ true) × (u ≡ true)
both_true true u e = (refl, e)
both_true false u e = (e, (cc))

pub either_true : {P : Type 0} (t u : Bool) → either t u ≡ true → (t ≡ true → P) → (u ≡ true → P) → P
either_true true u e f g = f refl
either_true false u e f g = g e

pub both_fails : {P : Type 0} (t u : Bool) → both t u ≡ false → (t ≡ false → P) → (u ≡ false → P) → P
both_fails true u e f g = g e
both_fails false u e f g = f refl

pub either_fails : (t u : Bool) → either t u ≡ false → (t ≡ false) × (u ≡ false)
either_fails true u e = clash (cc)
either_fails false u e = (refl, e)

-- what holds of both answers, each with its test's outcome, holds of the one that is picked
pub pick_by : {A : Type 0} (P : A → Type 0) (t : Bool) {a b : A} → (t ≡ true → P a) → (t ≡ false → P b) → P (pick t a b)
pick_by P true f g = f refl
pick_by P false f g = g refl

pub not_empty : {A : Type 0} (xs : List A) → 0 < length xs → is_empty xs ≡ false
not_empty [] h = absurd (omega arith)
not_empty (x ∷ xs) h = refl

module _ {A : Type 0} (p : A → Bool) where
  pub every_at : (d : A) (xs : List A) (i : ℕ) → every p xs ≡ true → i < length xs → p (get_or xs i d) ≡ true
  unfolding every
  every_at d [] i e h = absurd (omega arith)
  every_at d (x ∷ xs) zero e h = (both_true _ _ e).0
  every_at d (x ∷ xs) (suc i) e h = every_at d xs i (both_true (p x) _ e).1 (omega arith)

  -- what holds of the miss and of a hit at each index holds of the scan
  pub scan-all : {R : Type 0} (P : R → Type 0) (hit : ℕ → R) (miss : R) (i : ℕ) (xs : List A)
      → P miss → ((j : ℕ) → j < i + length xs → P (hit j)) → P (scan p hit miss i xs)
  unfolding scan
  scan-all P hit miss i [] m h = m
  scan-all P hit miss i (x ∷ xs) m h = pick_all P (p x) (h i (omega arith)) (scan-all P hit miss (suc i) xs m (λ j l. h j (omega arith)))

pub every_from_at : {A : Type 0} (p : ℕ → A → Bool) (d : A) (k : ℕ) (xs : List A) (i j : ℕ) → every_from p k xs ≡ true → i < length xs → j ≡ k + i
    → p j (get_or xs i d) ≡ true
unfolding every_from
every_from_at p d k [] i j e h q = absurd (omega arith)
every_from_at p d k (x ∷ xs) zero j e h q = let z : j ≡ k = omega arith in rw z (both_true _ _ e).0
every_from_at p d k (x ∷ xs) (suc i) j e h q = every_from_at p d (suc k) xs i j (both_true (p k x) _ e).1 (omega arith) (omega arith)

-- ---- a test among many, and what holds of each element

pub both-none : (b : Bool) → both b false ≡ false
both-none b = both_off_2 b false refl

-- a test among many that hold together holds: at a place, the last premise is `λ e. simp (e, both-none)`
pub among : (b whole : Bool) → whole ≡ true → (b ≡ false → whole ≡ false) → b ≡ true
among true whole e f = refl
among false whole e f = sym (f refl) ∙ e

pub every-All : {A : Type 0} (p : A → Bool) (P : A → Type 0) → ((x : A) → p x ≡ true → P x) → (xs : List A) → every p xs ≡ true → All P xs
unfolding every
every-All p P f [] e = tt
every-All p P f (x ∷ xs) e =
    (f x (among (p x) _ e (λ n. rw n)), every-All p P f xs (among (every p xs) _ e (λ n. rw (n, both-none))))

pub All-of_map : {A B : Type 0} (f : A → B) (P : B → Type 0) → ((x : A) → P (f x)) → (xs : List A) → All P (map f xs)
All-of_map f P h [] = tt
All-of_map f P h (x ∷ xs) = (h x, All-of_map f P h xs)

pub All-append : {A : Type 0} (P : A → Type 0) (xs ys : List A) → All P xs → All P ys → All P (xs ++ ys)
All-append P [] ys a b = b
All-append P (x ∷ xs) ys a b = (a.0, All-append P xs ys a.1 b)

-- a list in two parts
pub All-parts : {A : Type 0} (P : A → Type 0) (n : ℕ) (xs : List A) → All P (take n xs) → All P (drop n xs) → All P xs
All-parts P zero xs a b = b
All-parts P (suc n) [] a b = tt
All-parts P (suc n) (x ∷ xs) a b = (a.0, All-parts P n xs a.1 b)

pub Distinct-append : {A : Type 0} (key : A → ℕ) (xs ys : List A) → Distinct key xs → Distinct key ys
    → All (λ x. All (λ y. key x ≢ key y) ys) xs → Distinct key (xs ++ ys)
Distinct-append key [] ys d e a = e
Distinct-append key (x ∷ xs) ys d e a =
    (All-append (λ y. key x ≢ key y) xs ys d.0 a.0, Distinct-append key xs ys d.1 e a.1)

-- ---- what holds at an index; the elements that pass a test, and those before the first that passes it

pub All-at : {A : Type 0} (P : A → Type 0) (d : A) (xs : List A) (n : ℕ) → All P xs → n < length xs → P (get_or xs n d)
All-at P d [] n a h = absurd (omega arith)
All-at P d (x ∷ xs) zero a h = a.0
All-at P d (x ∷ xs) (suc n) a h = All-at P d xs n a.1 (omega arith)

module _ {A : Type 0} (p : A → Bool) where
  abbrev pub passing : List A → List A
  passing [] = []
  passing (x ∷ xs) = pick (p x) (x ∷ passing xs) (passing xs)

  module _ (P : A → Type 0) where
    pub All-passing : (xs : List A) → All P xs → All P (passing xs)
    All-passing [] a = tt
    All-passing (x ∷ xs) a = pick_all (All P) (p x) (a.0, All-passing xs a.1) (All-passing xs a.1)

    pub passing_at : (d : A) (xs : List A) (n : ℕ) → All P (passing xs) → n < length xs → p (get_or xs n d) ≡ true → P (get_or xs n d)
    passing_at d [] n a h e = absurd (omega arith)
    passing_at d (x ∷ xs) zero a h e = (rw e at a).0
    passing_at d (x ∷ xs) (suc n) a h e =
        by_test (p x) (λ t. passing_at d xs n (rw t at a).1 (omega arith) e) (λ t. passing_at d xs n (rw t at a) (omega arith) e)

    pub All-stretch : (d : A) (xs : List A) (n : ℕ) → p (get_or xs n d) ≡ true → ((k : ℕ) → k < n → P (get_or xs k d)) → All P (stretch p xs)
    unfolding stretch
    All-stretch d [] n e f = tt
    All-stretch d (x ∷ xs) zero e f = rw e tt
    All-stretch d (x ∷ xs) (suc n) e f =
        pick_all (All P) (p x) tt (f zero (omega arith), All-stretch d xs n e (λ k h. f (suc k) (omega arith)))

-- ---- a test of each element, and of each two, by their indexes

pub every_by : {A : Type 0} (p : A → Bool) (d : A) (xs : List A) → ((i : ℕ) → i < length xs → p (get_or xs i d) ≡ true) → every p xs ≡ true
unfolding every
every_by p d [] f = refl
every_by p d (x ∷ xs) f = both_on _ _ (f zero (omega arith)) (every_by p d xs (λ i h. f (suc i) (omega arith)))

pub pairs_by : {A : Type 0} (p : A → A → Bool) (d : A) (xs : List A) → ((i j : ℕ) → i < j → j < length xs → p (get_or xs i d) (get_or xs j d) ≡ true)
    → pairs p xs ≡ true
unfolding pairs
pairs_by p d [] f = refl
pairs_by p d (x ∷ xs) f =
    both_on _ _ (every_by (p x) d xs (λ j h. f zero (suc j) (omega arith) (omega arith)))
    (pairs_by p d xs (λ i j h l. f (suc i) (suc j) (omega arith) (omega arith)))

pub pairs_at : {A : Type 0} (p : A → A → Bool) (d : A) (xs : List A) (i : ℕ) → pairs p xs ≡ true → i < length xs
    → every (p (get_or xs i d)) (drop (suc i) xs) ≡ true
unfolding pairs
pairs_at p d [] i e h = absurd (omega arith)
pairs_at p d (x ∷ xs) zero e h = (both_true (every (p x) xs) _ e).0
pairs_at p d (x ∷ xs) (suc i) e h = pairs_at p d xs i (both_true (every (p x) xs) _ e).1 (omega arith)

pub pairs_two : {A : Type 0} (p : A → A → Bool) (d : A) (xs : List A) (i j : ℕ) → pairs p xs ≡ true → i < j → j < length xs
    → p (get_or xs i d) (get_or xs j d) ≡ true
pairs_two p d xs i j e h l =
    let q : suc i + (j - suc i) ≡ j = omega arith in
    rw (get_or-drop, q) at (every_at (p (get_or xs i d)) d (drop (suc i) xs) (j - suc i) (pairs_at p d xs i e (omega arith)) (simp length-drop (omega arith)))

pub every_from_by : {A : Type 0} (p : ℕ → A → Bool) (d : A) (k : ℕ) (xs : List A)
    → ((i j : ℕ) → i < length xs → j ≡ k + i → p j (get_or xs i d) ≡ true) → every_from p k xs ≡ true
unfolding every_from
every_from_by p d k [] f = refl
every_from_by p d k (x ∷ xs) f =
    both_on _ _ (f zero k (omega arith) (omega arith)) (every_from_by p d (suc k) xs (λ i j h q. f (suc i) j (omega arith) (omega arith)))

-- of each element of a part of a list, by the list's indexes
module _ {A : Type 0} (p : A → Bool) (d : A) (xs : List A) (k n : ℕ) where
  pub every_part_at : (j : ℕ) → every p (take n (drop k xs)) ≡ true → k ≤ j → j < min (k + n) (length xs) → p (get_or xs j d) ≡ true
  every_part_at j e h l =
      let q : k + (j - k) ≡ j = omega arith in
      let i : j - k < n = omega arith in
      rw (get_or-take n (drop k xs) (j - k) d i, get_or-drop, q) at (every_at p d (take n (drop k xs)) (j - k) e
      (simp (length-take, length-drop) (omega arith)))

  pub every_part_by : ((j : ℕ) → k ≤ j → j < min (k + n) (length xs) → p (get_or xs j d) ≡ true) → every p (take n (drop k xs)) ≡ true
  every_part_by f =
      every_by p d _ (λ i h.
      let l = simp (length-take, length-drop) at h in
      let m : i < n = omega arith in
      rw (get_or-take, get_or-drop) (f (k + i) (omega arith) (omega arith)))

  pub every_part : every p xs ≡ true → every p (take n (drop k xs)) ≡ true
  every_part e = every_part_by (λ j h l. every_at p d xs j e (omega arith))

unmet : (t e : Bool) → e ≡ false → (t ≡ true → e ≡ true) → t ≡ false
unmet true e h f = sym (f refl) ∙ h
unmet false e h f = refl

pub every_broken : {A : Type 0} (p : A → Bool) (d : A) (xs : List A) (i : ℕ) → i < length xs → p (get_or xs i d) ≡ false → every p xs ≡ false
every_broken p d xs i h e = unmet _ _ e (λ t. every_at p d xs i t h)

pub pairs_broken : {A : Type 0} (p : A → A → Bool) (d : A) (xs : List A) (i : ℕ) → i < length xs → every (p (get_or xs i d)) (drop (i + 1) xs) ≡ false
    → pairs p xs ≡ false
pairs_broken p d xs i h e = unmet _ _ e (λ t. rw add-one (pairs_at p d xs i t h))

-- where a test of each element fails, and at which one
pub record Fails {A : Type 0} (p : A → Bool) (d : A) (xs : List A) : Type 0 where
  pub at : ℕ
  pub inside : at < length xs
  pub fails : p (get_or xs at d) ≡ false

pub every_fails : {A : Type 0} (p : A → Bool) (d : A) (xs : List A) → every p xs ≡ false → Fails p d xs
unfolding every
every_fails p d [] e = clash (cc)
every_fails p d (x ∷ xs) e =
    both_fails (p x) _ e (λ q. record { at = 0; inside = omega arith; fails = q })
    (λ q. let r = every_fails p d xs q in record { at = suc r.at; inside = omega (arith, r.inside); fails = r.fails })

-- ---- tests in another order: two tests that hold together are equal

pub equal_tests : (a b : Bool) → (a ≡ true → b ≡ true) → (b ≡ true → a ≡ true) → a ≡ b
equal_tests true b f g = sym (f refl)
equal_tests false true f g = g refl
equal_tests false false f g = refl

pub both_left : (t u : Bool) → both t u ≡ true → t ≡ true
both_left t u e = (both_true t u e).0

pub both_right : (t u : Bool) → both t u ≡ true → u ≡ true
both_right t u e = (both_true t u e).1

pub ruleset regroup = (both_left, both_right, both_on)

pub both_assoc : (a b c : Bool) → both (both a b) c ≡ both a (both b c)
both_assoc true b c = refl
both_assoc false b c = refl

-- a test that another one implies
pub both_implied : (a b : Bool) → (b ≡ true → a ≡ true) → both a b ≡ b
both_implied true b f = refl
both_implied false true f = f refl
both_implied false false f = refl

pub swapped : (a b c d : Bool) → both (both a b) (both c d) ≡ both (both a c) (both b d)
swapped a b c d = equal_tests _ _ (λ e. search regroup) (λ e. search regroup)

pub every-both : {A : Type 0} (p q : A → Bool) (xs : List A) → every (λ x. both (p x) (q x)) xs ≡ both (every p xs) (every q xs)
unfolding every
every-both p q [] = refl
every-both p q (x ∷ xs) = rw (every-both p q xs) (swapped (p x) (q x) _ _)

pub every_append : {A : Type 0} (p : A → Bool) (xs ys : List A) → every p (xs ++ ys) ≡ both (every p xs) (every p ys)
unfolding every
every_append p [] ys = refl
every_append p (x ∷ xs) ys = rw (every_append p xs ys) (sym (both_assoc (p x) _ _))

pub from-both : {A : Type 0} (p q : ℕ → A → Bool) (i : ℕ) (xs : List A)
    → every_from (λ i x. both (p i x) (q i x)) i xs ≡ both (every_from p i xs) (every_from q i xs)
unfolding every_from
from-both p q i [] = refl
from-both p q i (x ∷ xs) = rw (from-both p q (suc i) xs) (swapped (p i x) (q i x) _ _)

-- a test that needs no index
pub from-every : {A : Type 0} (p : A → Bool) (i : ℕ) (xs : List A) → every_from (λ i. p) i xs ≡ every p xs
unfolding every every_from
from-every p i [] = refl
from-every p i (x ∷ xs) = rw (from-every p (suc i) xs)

pub pairs-both : {A : Type 0} (p q : A → A → Bool) (xs : List A) → pairs (λ x y. both (p x y) (q x y)) xs ≡ both (pairs p xs) (pairs q xs)
unfolding pairs
pairs-both p q [] = refl
pairs-both p q (x ∷ xs) = rw (pairs-both p q xs, every-both (p x) (q x) xs) (swapped (every (p x) xs) (every (q x) xs) _ _)
