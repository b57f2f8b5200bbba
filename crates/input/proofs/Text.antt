-- The elements before the first that passes a test: their number, and the part of the text that they are; and the text behind a read.
-- Assumes nothing.
use mathlib.Core.Path.{◌≡◌, refl, sym, ap, ◌∙◌}
use mathlib.Core.Logic.{◌≢◌}
use mathlib.Core.Bool.{Bool}
use mathlib.Core.List.{List, [], ◌∷◌, ◌++◌, append_assoc}
use Prim.Native.Nat.{ℕ, suc, ◌+◌, ◌-◌, ◌<◌, ◌≤◌}
use native.Mathlib.Omega.{arith}
use native.Mathlib.Nat.{zero-add, add-zero}
use lib.ListN.{length, get_or, take, drop, set, length-append, length-drop}
use lib.Dec.{ltb, eqb}
use borrow.Author.Tests.{ne_eqb, lt-ltb, le-ltb, ltb-true, ltb-false}
use Rattle.std.specs.Prelude.{Option, Some, None, unwrap_or, IfSome}
use Rattle.laws.specs.Scan.{scan}
use Rattle.laws.specs.Pick.{pick}
use lib.Seq.{take_at, get_or-set_same, length-take-le, paste}
use Rattle.laws.specs.Put.{put}
use Rattle.laws.proofs.Chain.{by_test, pick_all}
use Rattle.laws.proofs.Put.{set-put}
use Rattle.input.specs.Text.{end_after, left_after, More}
use Rattle.laws.specs.Tests.{stretch}

pub stretch-short : {A : Type 0} (p : A → Bool) (l : List A) → length (stretch p l) ≤ length l
unfolding stretch
stretch-short p [] = omega arith
stretch-short p (x ∷ l) = by_test (p x) (λ t. rw t (omega arith)) (λ t. rw t (omega (arith, stretch-short p l)))

-- their number is the place of that element, or the length where there is none
scan_at : {A : Type 0} (p : A → Bool) (i : ℕ) (xs : List A)
    → scan p Some None i xs ≡ pick (ltb (length (stretch p xs)) (length xs)) (Some (i + length (stretch p xs))) None
unfolding scan stretch
scan_at p i [] = refl
scan_at p i (x ∷ xs) =
    by_test (p x) (λ t. rw (t, lt-ltb 0 (suc (length xs)) (omega arith), add-zero) refl)
    (λ t. let n = length (stretch p xs) in
    let m = length xs in
    let e : i + suc n ≡ suc i + n = omega arith in
    rw t (scan_at p (suc i) xs ∙ by_test (ltb n m)
    (λ u. rw (u, lt-ltb (suc n) (suc m) (omega (arith, ltb-true n m u)), e) refl)
    (λ u. rw (u, le-ltb (suc n) (suc m) (omega (arith, ltb-false n m u))) refl)))

module _ {A : Type 0} (p : A → Bool) (xs : List A) (r : Option ℕ) (is : r ≡ scan p Some None 0 xs) where
  pub place_is : r ≡ pick (ltb (length (stretch p xs)) (length xs)) (Some (length (stretch p xs))) None
  place_is = is ∙ scan_at p 0 xs ∙ ap (λ (k : ℕ). pick (ltb (length (stretch p xs)) (length xs)) (Some k) None) (zero-add (length (stretch p xs)))

pub place_or_end : {A : Type 0} (p : A → Bool) (xs : List A) (r : Option ℕ)
    → r ≡ pick (ltb (length (stretch p xs)) (length xs)) (Some (length (stretch p xs))) None → unwrap_or r (length xs) ≡ length (stretch p xs)
place_or_end p xs r e =
    by_test (ltb (length (stretch p xs)) (length xs)) (λ t. rw (e, t) refl)
    (λ t. rw (e, t) (omega (arith, ltb-false (length (stretch p xs)) (length xs) t, stretch-short p xs)))

-- they are the front of the text
pub take-stretch : {A : Type 0} (p : A → Bool) (l : List A) → take (length (stretch p l)) l ≡ stretch p l
unfolding stretch
take-stretch p [] = refl
take-stretch p (x ∷ l) = by_test (p x) (λ t. rw t) (λ t. rw t (ap (λ k. x ∷ k) (take-stretch p l)))

-- a part moved to the start
pub moved_is_put : (xs : List ℕ) (at end : ℕ) → at ≤ end → end ≤ length xs → paste xs 0 (drop at xs) (end - at) ≡ put xs 0 (take (end - at) (drop at xs))
unfolding put
moved_is_put xs at end h l = rw (length-take-le (end - at) (drop at xs) (rw length-drop (omega arith)))

-- ---- a read behind what is there, and the newline that may be written then

-- a part that was lent stands behind what is there
pub lent_front : (old new rest : List ℕ) (at : ℕ) → at ≤ length old → take at (take at old ++ (new ++ rest)) ≡ take at old
lent_front old new rest at h = take_at (take at old) (new ++ rest) at (length-take-le at old h)

front-put : (xs ys : List ℕ) (at : ℕ) → at ≤ length xs → take at (put xs at ys) ≡ take at xs
unfolding put
front-put xs ys at h = rw append_assoc (lent_front xs ys (drop (at + length ys) xs) at h)

module _ (old mid new : List ℕ) (at n : ℕ) (inside : at < length old) (front : take at mid ≡ take at old) (as_long : length mid ≡ length old)
    (left : new ≡ left_after at n mid) where
  pub front_after : take at new ≡ take at old
  front_after =
      rw left (pick_all (λ (l : List ℕ). take at l ≡ take at old) (ltb 0 n) front
      (pick_all (λ (l : List ℕ). take at l ≡ take at old) (eqb at 0) front (front-put mid (10 ∷ []) at (omega arith) ∙ front)))

  pub newline_after : n ≡ 0 → 0 < at → get_or new at 0 ≡ 10
  newline_after z p =
      let no : at ≢ 0 = omega arith in
      let stored : put mid at (10 ∷ []) ≡ set mid at 10 = sym (set-put mid at 10 (omega arith)) in
      rw (left, z, ne_eqb at 0 no, stored) (get_or-set_same mid at 10 0 (omega arith))

pub end_inside : (at n most : ℕ) → at < most → at + n ≤ most → IfSome (end_after at n) (λ (end : ℕ). end ≤ most)
end_inside at n most h l =
    let P : Option ℕ → Type 0 = λ o. IfSome o (λ (end : ℕ). end ≤ most) in
    pick_all P (ltb 0 n) l (pick_all P (eqb at 0) tt (omega arith))

-- the same of a buffer whose end was lent to a read, as it comes back: `take` to the end, and nothing after it
pub after_read : (old came new : List ℕ) (at n : ℕ) (r : Option ℕ) → at < length old → at + n ≤ length old → length came ≡ length old - at
    → length new ≡ length old → r ≡ end_after at n → new ≡ left_after at n (take at old ++ (came ++ drop (length old - at) (drop at old)))
    → More at old new r
after_read old came new at n r h l k s e left =
    let rest = drop (length old - at) (drop at old) in
    let as_long : length (take at old ++ (came ++ rest)) ≡ length old =
    simp (length-append, length-take-le at old (omega arith), length-drop) (omega arith) in
    let front = lent_front old came rest at (omega arith) in
    record {
      came = n;
      fits = l;
      inside = rw e (end_inside at n (length old) h l);
      end_is = e;
      front_stays = front_after old _ new at n h front as_long left;
      length_stays = s;
      line_ended = newline_after old _ new at n h front as_long left;
    }
