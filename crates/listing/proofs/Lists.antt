-- A list's numbers by their pairs of bytes, and what is written of them one by one.
-- Assumes nothing.
use Rattle.std.proofs.Common.{◌≡◌, ℕ, zero, suc, ◌+◌, ◌*◌, ◌/◌, ◌<◌, ◌≤◌, ltb, Bool, List, [], ◌∷◌, ◌++◌, length, take, drop, get_or, map, sym, refl, ap}
use Rattle.std.proofs.Common.{◌∙◌, add-one, arith, length-append, lt-ltb, le-ltb, ltb-true, ltb-false, true, false}
use Rattle.std.proofs.lemmas.List.{get_or-take, drop-take, length-map}
use Rattle.std.proofs.lemmas.Nat.{mul-le}
use Rattle.std.specs.Prelude.{None, Some, sum_by}
use Rattle.std.specs.List.{fold}
use Rattle.std.specs.Int.{from_le_bytes, w16}
use Rattle.std.specs.Simd.{first_chunks}
use lib.ListN.{drop_of_length-le}
use lib.Seq.{drop-cons}
use Rattle.laws.specs.Put.{put}
use Rattle.laws.proofs.Chain.{by_test, clash}
use Rattle.laws.specs.Tests.{every}
use Rattle.laws.proofs.Put.{put-put, put-none}
use Rattle.definition.specs.Bytes.{u16_at, numbers, counted}
use Rattle.cip.specs.Writes.{Written}
use Rattle.listing.specs.Numbers.{word}

-- ---- a list's count and its pairs of bytes

numbers_pairs : (n : ℕ) (s : List ℕ) → map word (first_chunks 2 n s) ≡ numbers n s
unfolding numbers
numbers_pairs zero s = refl
numbers_pairs (suc n) s = rw (get_or-take 2 s 0 0 (omega arith), get_or-take 2 s 1 0 (omega arith), numbers_pairs n (drop 2 s))

-- of bytes that are cut off behind them
numbers_take : (n : ℕ) (s : List ℕ) → numbers n (take (2 * n) s) ≡ numbers n s
unfolding numbers
numbers_take zero s = refl
numbers_take (suc n) s =
    let e : 2 * suc n ≡ 2 + 2 * n = omega arith in
    rw (e, get_or-take (2 + 2 * n) s 0 0 (omega arith), get_or-take (2 + 2 * n) s 1 0 (omega arith), drop-take 2 (2 * n) s, numbers_take n (drop 2 s))

-- a part that is not there
pub beyond : (from to n : ℕ) → from ≤ to → ((from ≤ to) × (to ≤ n) → false ≡ true) → n < to
beyond from to n h f = by_test (ltb n to) (λ t. ltb-true n to t) (λ t. clash (cc (f (h, ltb-false n to t))))

pub first_word : (s part : List ℕ) → part ≡ take 2 s → u16_at part 0 ≡ u16_at s 0
first_word s part e = rw (e, get_or-take 2 s 0 0 (omega arith), get_or-take 2 s 1 0 (omega arith))

module _ (body : List ℕ) where
  pub list-short : length body < 2 → None ≡ counted body
  unfolding counted
  list-short h = rw (lt-ltb (length body) (2 + 2 * u16_at body 0) (omega arith))

  module _ (n : ℕ) (count : n ≡ u16_at body 0) where
    pub list-cut : length body < 2 + 2 * n → None ≡ counted body
    unfolding counted
    list-cut h = rw (← count, lt-ltb (length body) (2 + 2 * n) h)

    pub list_read : (bytes : List ℕ) (pairs : List (List ℕ)) → 2 + 2 * n ≤ length body → bytes ≡ take (2 * n) (drop 2 body) → length bytes ≡ 2 * n
        → pairs ≡ first_chunks 2 (length bytes / 2) bytes → Some (map word pairs) ≡ counted body
    unfolding counted
    list_read bytes pairs h b l p =
        let k : length bytes / 2 ≡ n = omega arith in
        rw (← count, le-ltb (length body) (2 + 2 * n) h, p, k, b, numbers_pairs n (take (2 * n) (drop 2 body)), numbers_take n (drop 2 body))

-- as the library reads two bytes
as_word : (p : List ℕ) → from_le_bytes w16 p ≡ word p
as_word p = omega arith

-- ---- what is written of a list's numbers, where each number a adds f a

pub record Adds (f : ℕ → List ℕ) (g : List ℕ → List ℕ) : Type 0 where
  pub none : g [] ≡ []
  pub one : (a : ℕ) (l : List ℕ) → g (a ∷ l) ≡ f a ++ g l

module _ (f : ℕ → List ℕ) (g : List ℕ → List ℕ) (adds : Adds f g) where
  -- it is short if each addition is
  pub all_short : (m : ℕ) → ((a : ℕ) → length (f a) ≤ m) → (l : List ℕ) → length (g l) ≤ length l * m
  all_short m short [] = rw adds.none (omega arith)
  all_short m short (a ∷ l) = rw (adds.one a l, length-append) (omega (arith, short a, all_short m short l))

  -- what all of them add
  sum_from : (n : ℕ) (pairs : List (List ℕ)) → fold (λ s p. s + length (f (from_le_bytes w16 p))) n pairs ≡ n + length (g (map word pairs))
  sum_from n [] = rw adds.none (omega arith)
  sum_from n (p ∷ pairs) =
      rw (adds.one (word p) (map word pairs), length-append, ← (as_word p))
      (sum_from (n + length (f (from_le_bytes w16 p))) pairs ∙ omega arith)

  pub sum_all : (pairs : List (List ℕ)) → sum_by (λ p. length (f (from_le_bytes w16 p))) pairs ≡ length (g (map word pairs))
  sum_all pairs = sum_from 0 pairs ∙ omega arith

  module _ (pairs : List (List ℕ)) where
    -- of the numbers from the i-th on
    abbrev pub left : ℕ → List ℕ
    left i = g (map word (drop i pairs))

    pub left_next : (i a : ℕ) → i < length pairs → a ≡ from_le_bytes w16 (get_or pairs i []) → left i ≡ f a ++ left (i + 1)
    left_next i a h e =
        ap (λ (l : List (List ℕ)). g (map word l)) (drop-cons pairs i [] h) ∙ adds.one (word (get_or pairs i [])) _
        ∙ rw (e ∙ as_word (get_or pairs i []), add-one i)

    pub left_end : (i : ℕ) → length pairs ≤ i → left i ≡ []
    left_end i h = rw (drop_of_length-le pairs h) adds.none

    pub few_short : (m : ℕ) → ((a : ℕ) → length (f a) ≤ m) → length pairs ≤ 65535 → length (left 0) ≤ 65535 * m
    few_short m short h =
        let n : length (map word pairs) ≡ length pairs = length-map pairs word in
        omega (arith, all_short m short (map word pairs), mul-le (length (map word pairs)) m 65535 m (omega arith) (omega arith))

    -- a loop that adds up sizes: what it has and what is left is what it comes to
    abbrev pub Sums : (b i used : ℕ) → Type 0
    Sums b i used = used + length (left i) ≡ b + length (left 0)

    pub sum_next : (b i used a k : ℕ) → Sums b i used → i < length pairs → a ≡ from_le_bytes w16 (get_or pairs i [])
        → k ≡ length (f a) → Sums b (i + 1) (used + k)
    sum_next b i used a k here h e q =
        let n : length (left i) ≡ length (f a) + length (left (i + 1)) = rw (left_next i a h e) (length-append (f a) (left (i + 1))) in
        omega arith

    pub sum_end : (b i used : ℕ) → Sums b i used → length pairs ≤ i → used ≡ b + length (left 0)
    sum_end b i used here h =
        let n : length (left i) ≡ 0 = rw (left_end i h) in
        omega arith

    -- a loop that writes: if what is left is put behind what it has written, all is written
    abbrev pub Puts : (at : ℕ) (start : List ℕ) (i used : ℕ) (old : List ℕ) → Type 0
    Puts at start i used old = Sums at i used × (put old used (left i) ≡ put start at (left 0))

    module _ (at i used a : ℕ) (start old : List ℕ) (here : Puts at start i used old) (inside : i < length pairs)
        (number : a ≡ from_le_bytes w16 (get_or pairs i [])) (fits : at + length (left 0) ≤ length old) where
      pub put_fits : used + length (f a) ≤ length old
      put_fits = omega (arith, sum_next at i used a (length (f a)) here.0 inside number refl)

      pub put_next : (k : ℕ) (new : List ℕ) → Written used (f a) old k new → Puts at start (i + 1) (used + k) new
      put_next k new w = (
        sum_next at i used a k here.0 inside number w.length_is,
        rw (w.buffer_is, w.length_is) (put-put old used (f a) (left (i + 1))
            (omega (arith, sum_next at i used a (length (f a)) here.0 inside number refl)) ∙ rw (← (left_next i a inside number)) here.1),
      )

    pub put_end : (at i used : ℕ) (start old : List ℕ) → Puts at start i used old → length pairs ≤ i → old ≡ put start at (left 0)
    put_end at i used start old here h = sym (put-none old used) ∙ rw (left_end i h) at here.1

-- ---- a test of each number

pub every_map : {A B : Type 0} (p : B → Bool) (f : A → B) (xs : List A) → every (λ x. p (f x)) xs ≡ every p (map f xs)
unfolding every
every_map p f [] = refl
every_map p f (x ∷ xs) = rw (every_map p f xs)
