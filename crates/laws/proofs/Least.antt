-- The search for the least key not below a bound finds the next of the sorted list, and behind it the bound is its key plus one.
-- Assumes nothing.
use mathlib.Core.Path.{◌≡◌, refl, sym, ap, subst, ◌∙◌}
use mathlib.Core.List.{List, [], ◌∷◌, ◌++◌}
use Rattle.std.specs.Prelude.{Option, None, Some}
use Prim.Native.Nat.{ℕ, suc, ◌≤◌, ◌<◌}
use native.Mathlib.Omega.{arith}
use lib.Dec.{leb, ltb}
use borrow.Author.Tests.{leb-true, leb-false, ltb-true, ltb-false, lt-leb, lt-ltb, le-ltb}
use Rattle.laws.specs.Pick.{pick}
use Rattle.laws.specs.Sorted.{All, insert, sort, from, nearer, least, Sorted, head_of}
use Rattle.laws.proofs.Chain.{by_test}
use Rattle.laws.proofs.Sorted.{All-map, from_all, from_bound}

module _ {A : Type 0} (key : A → ℕ) where
  -- what a turn of the search makes of the rest
  abbrev turn : (bound : ℕ) → A → Option A → Option A
  turn bound x rest = pick (leb bound (key x)) (Some (nearer key x rest)) rest

  head-insert : (bound : ℕ) (x : A) (s : List A) → head_of (from key bound (insert key x s)) ≡ turn bound x (head_of (from key bound s))
  unfolding from insert
  head-insert bound x [] = by_test (leb bound (key x)) (λ e. rw e) (λ e. rw e)
  head-insert bound x (y ∷ ys) =
      by_test (ltb (key x) (key y))
      (λ p. by_test (leb bound (key x))
      (λ q. by_test (leb bound (key y)) (λ r. rw (p, q, r, p))
      (λ r. absurd (omega (arith, ltb-true (key x) (key y) p, leb-true bound (key x) q, leb-false bound (key y) r))))
      (λ q. rw (p, q)))
      (λ p. by_test (leb bound (key y))
      (λ r. by_test (leb bound (key x)) (λ q. rw (p, r, q, p))
      (λ q. rw (p, r, q)))
      (λ r. rw (p, r) (head-insert bound x ys)))

  -- the search over the table, in any order, finds the next of the sorted list
  pub search_finds : (bound : ℕ) (xs : List A) → head_of (from key bound (sort key xs)) ≡ least key bound xs
  unfolding from sort least
  search_finds bound [] = refl
  search_finds bound (x ∷ xs) = head-insert bound x (sort key xs) ∙ rw (search_finds bound xs)

  head-all : (P : A → Type 0) (xs : List A) (x : A) → All P xs → head_of xs ≡ Some x → P x
  head-all P [] x a h = absurd (let z : ◌≡◌ {A = ℕ} 0 1 = cc in omega arith)
  head-all P (y ∷ ys) x a h = let same : y ≡ x = cc in rw same at a.0

  pub from-none : (bound : ℕ) (s : List A) → head_of (from key bound s) ≡ None → from key bound s ≡ []
  from-none bound s h = go (from key bound s) h
    where
      go : (l : List A) → head_of l ≡ None → l ≡ []
      go [] e = refl
      go (x ∷ l) e = absurd (let z : ◌≡◌ {A = ℕ} 0 1 = cc in omega arith)

  -- after an element, the next bound is its key plus one
  pub from_step : (bound : ℕ) (s : List A) (x : A) → Sorted key s → head_of (from key bound s) ≡ Some x → from key bound s ≡ x ∷ from key (suc (key x)) s
  unfolding from
  from_step bound [] x o h = absurd (let z : ◌≡◌ {A = ℕ} 0 1 = cc in omega arith)
  from_step bound (y ∷ ys) x o h =
      by_test (leb bound (key y))
      (λ q. let same : x ≡ y = cc (rw q at h) in
      subst (λ z. from key bound (y ∷ ys) ≡ z ∷ from key (suc (key z)) (y ∷ ys)) (sym same)
      (rw (
        q,
        after_all bound (omega (arith, leb-true bound (key y) q)),
        lt-leb (suc (key y)) (key y) (omega arith),
        after_all (suc (key y)) (omega arith),
      )))
      (λ q. let k : head_of (from key bound ys) ≡ Some x = rw q at h in
      rw (
        q,
        lt-leb (suc (key x)) (key y)
            (omega (arith, leb-false bound (key y) q, head-all (λ z. bound ≤ key z) (from key bound ys) x (from_bound key bound ys) k)),
      )
      (from_step bound ys x o.1 k))
    where
      after_all : (n : ℕ) → n ≤ suc (key y) → from key n ys ≡ ys
      after_all n l = from_all key n ys (All-map (λ z. key y < key z) (λ z. n ≤ key z) (λ z k. omega arith) ys o.0)

  -- the least of two lists is the nearer of both
  abbrev pub join_least : Option A → Option A → Option A
  join_least None o = o
  join_least (Some x) o = Some (nearer key x o)

  nearer-join : (x : A) (a b : Option A) → nearer key x (join_least a b) ≡ nearer key (nearer key x a) b
  nearer-join x None b = refl
  nearer-join x (Some y) None = refl
  nearer-join x (Some y) (Some z) =
      by_test (ltb (key x) (key y))
      (λ p. by_test (ltb (key y) (key z))
      (λ q. rw (q, p, lt-ltb (key x) (key z) (omega (arith, ltb-true (key x) (key y) p, ltb-true (key y) (key z) q))))
      (λ q. rw (q, p)))
      (λ p. by_test (ltb (key y) (key z)) (λ q. rw (q, p, q))
      (λ q. rw (q, p, q, le-ltb (key x) (key z) (omega (arith, ltb-false (key x) (key y) p, ltb-false (key y) (key z) q)))))

  pub least-append : (bound : ℕ) (xs ys : List A) → least key bound (xs ++ ys) ≡ join_least (least key bound xs) (least key bound ys)
  unfolding least
  least-append bound [] ys = refl
  least-append bound (x ∷ xs) ys =
      by_test (leb bound (key x))
      (λ e. rw (e, least-append bound xs ys) (ap Some (nearer-join x (least key bound xs) (least key bound ys)))) (λ e. rw e (least-append bound xs ys))
