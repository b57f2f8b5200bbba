-- Parts of a buffer that is written piece by piece, or into which a text is laid.
-- Assumes nothing.
use mathlib.Core.Path.{◌≡◌, sym, ap, ◌∙◌}
use mathlib.Core.List.{List, [], ◌∷◌, ◌++◌}
use Prim.Native.Nat.{ℕ, zero, suc, ◌+◌, ◌-◌, ◌≤◌, ◌<◌}
use native.Mathlib.Omega.{arith}
use lib.ListN.{length, get_or, take, drop, length-drop}
use lib.Seq.{take-nil, take_all, take_at, take-take, get_or-take, length-take-le, drop-append-le}
use Rattle.laws.specs.Put.{laid}
use Rattle.laws.proofs.Put.{take-laid, part_of_take}

pub drop-take : (a n size : ℕ) (xs : List ℕ) → size ≡ a + n → drop a (take size xs) ≡ take n (drop a xs)
drop-take zero n size xs e = let k : size ≡ n = omega arith in rw k
drop-take (suc a) n size [] e = rw (take-nil size, take-nil n)
drop-take (suc a) n zero (x ∷ xs) e = absurd (omega arith)
drop-take (suc a) n (suc size) (x ∷ xs) e = drop-take a n size xs (omega arith)

-- y was written at m, and what stands before m is as it was
module _ (old new y : List ℕ) (m k : ℕ) (long : m ≤ length old) (w : take k new ≡ take m old ++ y) (ends : k ≡ m + length y) where
  front : take m new ≡ take m old
  front = sym (take-take m k new (omega arith)) ∙ ap (take m) w ∙ take_at (take m old) y m (length-take-le m old long)

  pub part_stays : (a n : ℕ) → a + n ≤ m → take n (drop a new) ≡ take n (drop a old)
  part_stays a n h = sym (part_of_take a n m new h) ∙ ap (λ (l : List ℕ). take n (drop a l)) front ∙ part_of_take a n m old h

  pub part_grows : (a n j : ℕ) → m ≡ a + n → j ≡ n + length y → take j (drop a new) ≡ take n (drop a old) ++ y
  part_grows a n j e f =
      let t : a ≤ length (take m old) = rw (length-take-le m old long) (omega arith) in
      sym (drop-take a j k new (omega arith)) ∙ ap (drop a) w ∙ drop-append-le a (take m old) y t
      ∙ ap (λ (l : List ℕ). l ++ y) (drop-take a n m old e)

-- what stands at the front of a buffer into which r is laid
module _ (m : ℕ) (old r new : List ℕ) (lies : new ≡ laid m old r) where
  laid-front : take (length r) new ≡ r
  laid-front = rw lies (take-laid m old r)

  pub laid-byte : (i : ℕ) → i < length r → get_or new i 0 ≡ get_or r i 0
  laid-byte i h = sym (get_or-take (length r) new i 0 h) ∙ ap (λ (l : List ℕ). get_or l i 0) laid-front

  pub laid_rest : (a n : ℕ) → n ≡ length r → a ≤ n → take (n - a) (drop a new) ≡ drop a r
  laid_rest a n e h =
      sym (part_of_take a (n - a) (length r) new (omega arith)) ∙ ap (λ (l : List ℕ). take (n - a) (drop a l)) laid-front
      ∙ take_all (n - a) (drop a r) (omega (arith, length-drop a r))

pub laid-drop : (m : ℕ) (a b ys : List ℕ) → drop m a ≡ drop m b → laid m a ys ≡ laid m b ys
unfolding laid
laid-drop m a b ys e = rw e
