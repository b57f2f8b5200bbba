-- A message at the start of an array, the status of a reply that lies in a buffer, and what it says of a reply that turns a request away.
-- Assumes nothing.
use mathlib.Core.Path.{◌≡◌, refl}
use mathlib.Core.List.{List, [], ◌∷◌, ◌++◌}
use Prim.Native.Nat.{ℕ, zero, suc, ◌+◌, ◌-◌, ◌≤◌, ◌<◌}
use native.Mathlib.Omega.{arith}
use lib.ListN.{length, get_or, take, drop, replicate}
use Rattle.std.specs.Prelude.{None, Some}
use Rattle.laws.specs.Put.{laid}
use Rattle.laws.proofs.Put.{take_put}
use Rattle.definition.specs.Bytes.{le16, u16_at}
use Rattle.definition.specs.Reply.{reply, fail, general, extended}
use Rattle.cip.specs.Writes.{Written}
use Rattle.whole.specs.Whole.{status_in, word_in}

-- what was written are the array's first bytes
pub written_front : (message : List ℕ) (n : ℕ) (old new : List ℕ) → Written 0 message old n new → n ≤ length old → take n new ≡ message
written_front message n old new w fits =
    let e : n ≡ 0 + length message = omega (arith, w.length_is) in
    rw (e, w.buffer_is) (take_put old 0 message (omega arith))

-- zeros count as bytes past the end
zeros_byte : (k i : ℕ) (rest : List ℕ) → i < k → get_or (replicate k 0 ++ rest) i 0 ≡ 0
zeros_byte zero i rest h = absurd (omega arith)
zeros_byte (suc k) zero rest h = refl
zeros_byte (suc k) (suc i) rest h = zeros_byte k i rest (omega arith)

front-byte : (r : List ℕ) (k i : ℕ) (rest : List ℕ) → i < length r + k → get_or (r ++ (replicate k 0 ++ rest)) i 0 ≡ get_or r i 0
front-byte [] k i rest h = zeros_byte k i rest (omega (arith, h))
front-byte (x ∷ r) k zero rest h = refl
front-byte (x ∷ r) k (suc i) rest h = front-byte r k i rest (omega arith)

module _ (m : ℕ) (old r new : List ℕ) (long : 8 ≤ m) (lies : new ≡ laid m old r) where
  byte : (i : ℕ) → i < 8 → get_or new i 0 ≡ get_or r i 0
  unfolding laid
  byte i h = rw lies (front-byte r (m - length r) i (drop m old) (omega arith))

  pub laid-status : status_in new ≡ status_in r
  unfolding word_in
  laid-status = rw (byte 2 (omega arith), byte 3 (omega arith), byte 4 (omega arith), byte 5 (omega arith)) refl

-- a general status alone
pub status-general : (service code : ℕ) → status_in (fail service (general code)) ≡ record { general = code; word = None }
unfolding word_in reply
status-general service code = refl

-- and one with an extended word of 16 bits
pub status-extended : (service code word : ℕ) → word < 65536
    → status_in (fail service (extended code word)) ≡ record { general = code; word = Some word }
unfolding word_in reply
status-extended service code word h = let e : u16_at (le16 word) 0 ≡ word = omega arith in rw e refl
