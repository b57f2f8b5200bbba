-- Lists in the order of their keys: sorting by insertion gives one, and the elements from the key after that of the k-th are the rest.
-- Assumes nothing.
use mathlib.Core.Path.{◌≡◌, refl, sym, ap, ◌∙◌}
use mathlib.Core.Logic.{◌≢◌}
use mathlib.Core.List.{List, [], ◌∷◌, map}
use Prim.Native.Nat.{ℕ, zero, suc, ◌≤◌, ◌<◌}
use native.Mathlib.Omega.{arith}
use lib.Dec.{ltb, leb}
use lib.ListN.{length, drop, get_or}
use borrow.Author.Tests.{ltb-true, ltb-false, leb-true, leb-false, le-leb, lt-leb}
use Rattle.laws.specs.Sorted.{All, insert, sort, from, Sorted, Distinct}
use Rattle.laws.proofs.Chain.{by_test, pick_all}

pub All-map : {A : Type 0} (P Q : A → Type 0) → ((x : A) → P x → Q x) → (xs : List A) → All P xs → All Q xs
All-map P Q f [] a = tt
All-map P Q f (x ∷ xs) a = (f x a.0, All-map P Q f xs a.1)

pub All-drop : {A : Type 0} (P : A → Type 0) (i : ℕ) (xs : List A) → All P xs → All P (drop i xs)
All-drop P zero xs a = a
All-drop P (suc i) [] a = tt
All-drop P (suc i) (x ∷ xs) a = All-drop P i xs a.1

module _ {A : Type 0} (key : A → ℕ) where
  -- ---- from a key on

  pub All-from : (P : A → Type 0) (start : ℕ) (xs : List A) → All P xs → All P (from key start xs)
  unfolding from
  All-from P start [] a = tt
  All-from P start (x ∷ xs) a = let r = All-from P start xs a.1 in pick_all (All P) (leb start (key x)) (a.0, r) r

  -- what holds of each key holds of the k-th
  pub All-id : (P : ℕ → Type 0) (xs : List A) → All (λ x. P (key x)) xs → (k : ℕ) → k < length xs → P (get_or (map key xs) k 0)
  All-id P [] a k l = absurd (omega arith)
  All-id P (x ∷ xs) a zero l = a.0
  All-id P (x ∷ xs) a (suc k) l = All-id P xs a.1 k (omega arith)

  pub from_bound : (start : ℕ) (xs : List A) → All (λ x. start ≤ key x) (from key start xs)
  unfolding from
  from_bound start [] = tt
  from_bound start (x ∷ xs) =
      let r = from_bound start xs in
      by_test (leb start (key x)) (λ t. rw t (leb-true start (key x) t, r)) (λ t. rw t r)

  pub from-from : (a b : ℕ) (xs : List A) → b ≤ a → from key a (from key b xs) ≡ from key a xs
  unfolding from
  from-from a b [] h = refl
  from-from a b (x ∷ xs) h =
      let r = from-from a b xs h in
      by_test (leb b (key x)) (λ t. rw (t, r)) (λ t. rw (t, lt-leb a (key x) (omega (arith, leb-false b (key x) t))) r)

  pub from_all : (start : ℕ) (xs : List A) → All (λ x. start ≤ key x) xs → from key start xs ≡ xs
  unfolding from
  from_all start [] a = refl
  from_all start (x ∷ xs) a = rw (le-leb start (key x) a.0, from_all start xs a.1)

  pub Sorted-from : (start : ℕ) (xs : List A) → Sorted key xs → Sorted key (from key start xs)
  unfolding from
  Sorted-from start [] s = tt
  Sorted-from start (x ∷ xs) s =
      let r = Sorted-from start xs s.1 in
      pick_all (Sorted key) (leb start (key x)) (All-from (λ y. key x < key y) start xs s.0, r) r

  pub past : (xs : List A) → Sorted key xs → (k : ℕ) → k < length xs → from key (suc (get_or (map key xs) k 0)) xs ≡ drop (suc k) xs
  unfolding from
  past [] s k l = absurd (omega arith)
  past (x ∷ xs) s zero l = rw (lt-leb (suc (key x)) (key x) (omega arith)) (from_all (suc (key x)) xs s.0)
  past (x ∷ xs) s (suc k) l =
      let n = get_or (map key xs) k 0 in
      rw (lt-leb (suc n) (key x) (omega (arith, All-id (λ i. key x < i) xs s.0 k (omega arith)))) (past xs s.1 k (omega arith))

  -- from the key after that of the k-th element from a key on, the rest is there
  pub from_next : (first : ℕ) (xs : List A) → Sorted key xs → (k : ℕ) → k < length (from key first xs)
      → from key (suc (get_or (map key (from key first xs)) k 0)) xs ≡ drop (suc k) (from key first xs)
  from_next first xs s k l =
      let n = get_or (map key (from key first xs)) k 0 in
      let b : first ≤ n = All-id (λ i. first ≤ i) (from key first xs) (from_bound first xs) k l in
      sym (from-from (suc n) first xs (omega arith)) ∙ past (from key first xs) (Sorted-from first xs s) k l

  -- ---- by insertion

  pub All-insert : (P : A → Type 0) (x : A) (ys : List A) → P x → All P ys → All P (insert key x ys)
  unfolding insert
  All-insert P x [] p a = (p, tt)
  All-insert P x (y ∷ ys) p a = pick_all (All P) (ltb (key x) (key y)) (p, a) (a.0, All-insert P x ys p a.1)

  pub All-sort : (P : A → Type 0) (xs : List A) → All P xs → All P (sort key xs)
  unfolding sort
  All-sort P [] a = tt
  All-sort P (x ∷ xs) a = All-insert P x (sort key xs) a.0 (All-sort P xs a.1)

  pub Sorted-insert : (x : A) (ys : List A) → All (λ y. key x ≢ key y) ys → Sorted key ys → Sorted key (insert key x ys)
  unfolding insert
  Sorted-insert x [] d s = (tt, tt)
  Sorted-insert x (y ∷ ys) d s =
      let r = Sorted-insert x ys d.1 s.1 in
      by_test (ltb (key x) (key y))
      (λ t. let l : key x < key y = ltb-true _ _ t in
      rw t ((l, All-map (λ z. key y < key z) (λ z. key x < key z) (λ z h. omega arith) ys s.0), s))
      (λ t. rw t (All-insert (λ z. key y < key z) x ys (omega (arith, ltb-false (key x) (key y) t, d.0)) s.0, r))

  pub Sorted-sort : (xs : List A) → Distinct key xs → Sorted key (sort key xs)
  unfolding sort
  Sorted-sort [] d = tt
  Sorted-sort (x ∷ xs) d = Sorted-insert x (sort key xs) (All-sort (λ y. key x ≢ key y) xs d.0) (Sorted-sort xs d.1)

  -- ---- how many

  length-insert : (x : A) (ys : List A) → length (insert key x ys) ≡ suc (length ys)
  unfolding insert
  length-insert x [] = refl
  length-insert x (y ∷ ys) =
      pick_all (λ (l : List A). length l ≡ suc (suc (length ys))) (ltb (key x) (key y)) refl (ap suc (length-insert x ys))

  pub length-sort : (xs : List A) → length (sort key xs) ≡ length xs
  unfolding sort
  length-sort [] = refl
  length-sort (x ∷ xs) = length-insert x (sort key xs) ∙ ap suc (length-sort xs)

  pub length_from : (start : ℕ) (xs : List A) → length (from key start xs) ≤ length xs
  unfolding from
  length_from start [] = omega arith
  length_from start (x ∷ xs) =
      let r = length_from start xs in
      pick_all (λ (l : List A). length l ≤ suc (length xs)) (leb start (key x)) (omega arith) (omega arith)
