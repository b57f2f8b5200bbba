-- Writes into a list: lengths, what a write leaves, and two writes in a row as one.
-- Assumes nothing.
use mathlib.Core.Path.{◌≡◌, refl, sym, ap, ◌∙◌}
use mathlib.Core.List.{List, [], ◌∷◌, ◌++◌, append_assoc, append-nil}
use Prim.Native.Nat.{ℕ, zero, suc, ◌+◌, ◌-◌, ◌≤◌, ◌<◌}
use native.Mathlib.Omega.{arith}
use native.Mathlib.Numerals.{add-one}
use native.Mathlib.Nat.{add_assoc, add-zero, zero-add}
use lib.ListN.{length, take, drop, set, replicate, length-append, length-drop, length-replicate, take-append-drop}
use lib.Seq.{take_at, drop_at, drop-append-add, drop-drop, length-take-le, set_split, append_snoc, take-take, take-nil}
use borrow.Rule.Slice.PartMut.{put_mid}
use Rattle.laws.specs.Put.{put, laid, zeroed, KeptFrom}

module _ (xs : List ℕ) (at : ℕ) (ys : List ℕ) (fits : at + length ys ≤ length xs) where
  put-head : length (take at xs ++ ys) ≡ at + length ys
  put-head = length-append (take at xs) ys ∙ ap (λ (k : ℕ). k + length ys) (length-take-le at xs (omega arith))

  pub length-put : length (put xs at ys) ≡ length xs
  unfolding put
  length-put = simp (length-append, length-take-le at xs (omega arith), length-drop) (omega arith)

  pub take_put : take (at + length ys) (put xs at ys) ≡ take at xs ++ ys
  unfolding put
  take_put = take_at _ _ _ put-head

  pub drop-put : (n : ℕ) → drop (at + length ys + n) (put xs at ys) ≡ drop (at + length ys + n) xs
  unfolding put
  drop-put n =
      ap (λ (k : ℕ). drop (k + n) (take at xs ++ ys ++ drop (at + length ys) xs)) (sym put-head)
      ∙ drop-append-add (take at xs ++ ys) (drop (at + length ys) xs) n
      ∙ drop-drop n (at + length ys) xs

  pub drop_put_past : (m : ℕ) → at + length ys ≤ m → drop m (put xs at ys) ≡ drop m xs
  drop_put_past m h =
      let e : m ≡ at + length ys + (m - (at + length ys)) = omega arith in
      ap (λ (k : ℕ). drop k (put xs at ys)) e ∙ drop-put (m - (at + length ys)) ∙ ap (λ (k : ℕ). drop k xs) (sym e)

-- THE PUT LAW: two writes in a row are one
pub put-put : (xs : List ℕ) (a : ℕ) (ys zs : List ℕ) → a + length ys + length zs ≤ length xs
    → put (put xs a ys) (a + length ys) zs ≡ put xs a (ys ++ zs)
unfolding put
put-put xs a ys zs h =
    let fits : a + length ys ≤ length xs = omega arith in
    ap (λ (l : List ℕ). l ++ zs ++ drop (a + length ys + length zs) (put xs a ys)) (take_put xs a ys fits)
    ∙ ap (λ (l : List ℕ). take a xs ++ ys ++ zs ++ l) (drop-put xs a ys fits (length zs))
    ∙ simp (append_assoc, length-append, add_assoc)

-- what stands before a write is as it was
pub put-before : (xs : List ℕ) (a : ℕ) (ys : List ℕ) → a ≤ length xs → take a (put xs a ys) ≡ take a xs
unfolding put
put-before xs a ys h =
    let rest = drop (a + length ys) xs in
    ap (take a) (append_assoc (take a xs) ys rest) ∙ take_at (take a xs) (ys ++ rest) a (length-take-le a xs h)

-- a second write in the first one's place leaves nothing of the first
pub put_again : (xs : List ℕ) (a : ℕ) (ys zs : List ℕ) → a + length ys ≤ length xs → length zs ≡ length ys
    → put (put xs a ys) a zs ≡ put xs a zs
unfolding put
put_again xs a ys zs h e =
    ap (λ (l : List ℕ). l ++ zs ++ drop (a + length zs) (put xs a ys)) (put-before xs a ys (omega arith))
    ∙ ap (λ (l : List ℕ). take a xs ++ zs ++ l) (drop_put_past xs a ys h (a + length zs) (omega arith))

-- what stands where it was written is what was written
pub part_put : (xs : List ℕ) (a : ℕ) (ys : List ℕ) → a + length ys ≤ length xs → take (length ys) (drop a (put xs a ys)) ≡ ys
unfolding put
part_put xs a ys h =
    let rest = drop (a + length ys) xs in
    ap (take (length ys))
    (ap (drop a) (append_assoc (take a xs) ys rest) ∙ drop_at (take a xs) (ys ++ rest) a (length-take-le a xs (omega arith)))
    ∙ take_at ys rest (length ys) refl

-- a part that is written back where it stood
pub put_part : (xs : List ℕ) (a n : ℕ) → a + n ≤ length xs → put xs a (take n (drop a xs)) ≡ xs
unfolding put
put_part xs a n h =
    ap (λ (k : ℕ). take a xs ++ take n (drop a xs) ++ drop (a + k) xs) (length-take-le n (drop a xs) (simp length-drop (omega arith)))
    ∙ append_assoc (take a xs) (take n (drop a xs)) (drop (a + n) xs)
    ∙ ap (λ (l : List ℕ). take a xs ++ (take n (drop a xs) ++ l)) (sym (drop-drop n a xs))
    ∙ ap (λ (l : List ℕ). take a xs ++ l) (take-append-drop n (drop a xs))
    ∙ take-append-drop a xs

pub put-none : (xs : List ℕ) (at : ℕ) → put xs at [] ≡ xs
unfolding put
put-none xs at = simp (add-zero, append-nil) (take-append-drop at xs)

-- one store is a put of one byte
pub set-put : (xs : List ℕ) (i v : ℕ) → i < length xs → set xs i v ≡ put xs i (v ∷ [])
unfolding put
set-put xs i v h = set_split xs i v h ∙ rw (add-one i, append_snoc)

-- zeros after what was put at the start: the reply laid out
pub zeroed-laid : (m : ℕ) (old xs ys : List ℕ) (n : ℕ) → length ys ≡ n → take n xs ≡ ys → drop m xs ≡ drop m old → zeroed n m xs ≡ laid m old ys
unfolding zeroed laid
zeroed-laid m old xs ys n e t d = rw (t, d, e)

pub take-laid : (m : ℕ) (old ys : List ℕ) → take (length ys) (laid m old ys) ≡ ys
unfolding laid
take-laid m old ys = take_at _ _ _ refl

pub drop-laid : (m : ℕ) (old ys : List ℕ) → length ys ≤ m → drop m (laid m old ys) ≡ drop m old
unfolding laid
drop-laid m old ys h =
    let e : length (ys ++ replicate (m - length ys) 0) ≡ m = simp (length-append, length-replicate) (omega arith) in
    ap (λ (l : List ℕ). drop m l) (sym (append_assoc ys (replicate (m - length ys) 0) (drop m old)))
    ∙ drop_at (ys ++ replicate (m - length ys) 0) (drop m old) m e

pub length-laid : (m : ℕ) (old ys : List ℕ) → length ys ≤ m → m ≤ length old → length (laid m old ys) ≡ length old
unfolding laid
length-laid m old ys h k = simp (length-append, length-replicate, length-drop) (omega arith)

-- ---- what is kept from a position on, after writes that end before it

module _ (m : ℕ) (a b c : List ℕ) (k : KeptFrom m a b) where
  pub kept_then : KeptFrom m b c → KeptFrom m a c
  kept_then l = (l.0 ∙ k.0, l.1 ∙ k.1)

  pub kept_put : (at : ℕ) (ys : List ℕ) → c ≡ put b at ys → at + length ys ≤ m → m ≤ length b → KeptFrom m a c
  kept_put at ys e h l = rw e (drop_put_past b at ys (omega arith) m h ∙ k.0, length-put b at ys (omega arith) ∙ k.1)

  pub kept_laid : (ys : List ℕ) → c ≡ laid m b ys → length ys ≤ m → m ≤ length b → KeptFrom m a c
  kept_laid ys e h l = rw e (drop-laid m b ys h ∙ k.0, length-laid m b ys h l ∙ k.1)

-- and so from each position behind it
pub kept_less : (m n : ℕ) (a b : List ℕ) → m ≤ n → KeptFrom m a b → KeptFrom n a b
kept_less m n a b h k =
    let e : n ≡ m + (n - m) = omega arith in
    (rw (e, ← drop-drop (n - m) m b, ← drop-drop (n - m) m a, k.0) refl, k.1)

-- ---- the turns of the loops

-- ---- the same laws as a proof of a function cites them: each write is an equation, and the positions are whatever the code has

pub put_then : (old x y : List ℕ) (a : ℕ) (ys : List ℕ) (b : ℕ) (zs : List ℕ)
    → x ≡ put old a ys → y ≡ put x b zs → b ≡ a + length ys → b + length zs ≤ length old → y ≡ put old a (ys ++ zs)
put_then old x y a ys b zs e f g h =
    f ∙ ap (λ (l : List ℕ). put l b zs) e ∙ ap (λ (k : ℕ). put (put old a ys) k zs) g
    ∙ put-put old a ys zs (rw (← g) h)

pub laid_by : (m n : ℕ) (old x z ys : List ℕ)
    → x ≡ put old 0 ys → z ≡ zeroed n m x → n ≡ length ys → length ys ≤ m → m ≤ length old → z ≡ laid m old ys
laid_by m n old x z ys e f g h k =
    let fits : 0 + length ys ≤ length old = omega arith in
    let t : take n x ≡ ys = rw (e, g, ← (zero-add (length ys))) (take_put old 0 ys fits) in
    let d : drop m x ≡ drop m old = rw e (drop_put_past old 0 ys fits m (omega arith)) in
    f ∙ zeroed-laid m old x ys n (sym g) t d

pub length_part : (xs : List ℕ) (a n : ℕ) → a + n ≤ length xs → length (take n (drop a xs)) ≡ n
length_part xs a n h = length-take-le n (drop a xs) (simp length-drop (omega arith))

-- a part of a front part is a part of the whole
pub part_of_take : (a n size : ℕ) (xs : List ℕ) → a + n ≤ size → take n (drop a (take size xs)) ≡ take n (drop a xs)
part_of_take zero n size xs h = take-take n size xs (omega arith)
part_of_take (suc a) n size [] h = rw take-nil
part_of_take (suc a) n zero (x ∷ xs) h = absurd (omega arith)
part_of_take (suc a) n (suc size) (x ∷ xs) h = part_of_take a n size xs (omega arith)

pub part_of_part : (xs : List ℕ) (start size a n : ℕ) → a + n ≤ size → take n (drop (start + a) xs) ≡ take n (drop a (take size (drop start xs)))
part_of_part xs start size a n h = sym (part_of_take a n size (drop start xs) h ∙ rw drop-drop)

-- ---- a part that was lent, and what it holds when it comes back

pub mid-put : (xs : List ℕ) (a k : ℕ) (ys zs : List ℕ) → zs ≡ ys → k ≡ length ys → put_mid a k xs zs ≡ put xs a ys
unfolding put
mid-put xs a k ys zs e n = rw (e, n, drop-drop) (sym (append_assoc (take a xs) ys (drop (a + length ys) xs)))

pub mid-zeroed : (xs : List ℕ) (a m : ℕ) (zs : List ℕ) → zs ≡ replicate (length (take (m - a) (drop a xs))) 0 → (a ≤ m) × (m ≤ length xs)
    → put_mid a (m - a) xs zs ≡ zeroed a m xs
unfolding zeroed
mid-zeroed xs a m zs e h =
    let n : length (take (m - a) (drop a xs)) ≡ m - a = length_part xs a (m - a) (omega arith) in
    let b : a + (m - a) ≡ m = omega arith in
    rw (e, n, drop-drop, b) refl
