-- A reply's header by its pieces: the start, the count of extended words, and the word where there is one.
-- Assumes nothing.
use mathlib.Core.Path.{◌≡◌, refl, ◌∙◌}
use Rattle.std.specs.Prelude.{None, Some}
use mathlib.Core.List.{List, [], ◌∷◌}
use Prim.Native.Nat.{ℕ, ◌≤◌}
use native.Mathlib.Omega.{arith}
use lib.Bits.{bit_or}
use lib.ListN.{length}
use Rattle.laws.specs.Put.{put, zeroed}
use Rattle.laws.proofs.Chain.{clash}
use Rattle.laws.proofs.Put.{put_then, laid_by}
use Rattle.definition.specs.Bytes.{le16}
use Rattle.definition.specs.Reply.{Status, general, extended, code_of, reply, room}
use Rattle.cip.specs.Statuses.{word_of}
use Rattle.cip.specs.Writes.{Written, Laid}

abbrev pub start : (service code : ℕ) → List ℕ
start service code = bit_or service 0x80 ∷ 0 ∷ code ∷ []

pub header_with_word : (service : ℕ) (s : Status) (c w : ℕ) (old x y z : List ℕ) → 8 ≤ length old → c ≡ code_of s → word_of s ≡ Some w
    → x ≡ put old 0 (start service c) → y ≡ put x 3 (1 ∷ []) → z ≡ put y 4 (le16 w) → Written 0 (reply service s []) old 6 z
unfolding reply
header_with_word service (general code) c w old x y z l p h a b d = clash (cc h)
header_with_word service (extended code word) c w old x y z l p h a b d = let q : w ≡ word = cc h in record {
  length_is = refl;
  buffer_is = rw (p, q) at (put_then _ _ _ _ _ _ _ (put_then _ _ _ _ _ _ _ a b refl (omega arith)) d refl (omega arith));
}

pub header_without : (service : ℕ) (s : Status) (c : ℕ) (old x y : List ℕ) → 8 ≤ length old → c ≡ code_of s → word_of s ≡ None
    → x ≡ put old 0 (start service c) → y ≡ put x 3 (0 ∷ []) → Written 0 (reply service s []) old 4 y
unfolding reply
header_without service (general code) c old x y l p h a b = record { length_is = refl; buffer_is = rw p at (put_then _ _ _ _ _ _ _ a b refl (omega arith)) }
header_without service (extended code word) c old x y l p h a b = clash (cc h)

-- what was written from the start, and zeros after it, is a reply laid out
pub finished : (limit used : ℕ) (bytes old x z : List ℕ) (r : ℕ) → Written 0 bytes old used x → r ≡ used → z ≡ zeroed used (room limit) x
    → length bytes ≤ room limit → room limit ≤ length old → Laid limit bytes old r z
finished limit used bytes old x z r w e f h k = record {
  length_is = e ∙ w.length_is;
  buffer_is = laid_by (room limit) used old x z bytes w.buffer_is f w.length_is h k;
}

-- a header has at most 6 bytes
pub header-short : (service : ℕ) (s : Status) → length (reply service s []) ≤ 6
unfolding reply
header-short service (general code) = omega arith
header-short service (extended code word) = omega arith
