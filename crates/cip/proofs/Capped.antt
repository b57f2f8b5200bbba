-- Replies by their pieces, and refusals under a limit (item 20).
-- Assumes nothing.
use mathlib.Core.Path.{◌≡◌, refl, sym}
use mathlib.Core.Bool.{false}
use mathlib.Core.List.{List, [], ◌++◌}
use Prim.Native.Nat.{ℕ, ◌+◌, ◌≤◌, ◌<◌}
use native.Mathlib.Omega.{arith}
use lib.ListN.{length}
use borrow.Author.Tests.{le-leb, lt-leb}
use Rattle.laws.specs.Put.{put, zeroed}
use Rattle.laws.proofs.Chain.{clash}
use Rattle.laws.proofs.Put.{put_then}
use Rattle.definition.specs.Reply.{Status, general, extended, reply, fail, room, too_large}
use Rattle.definition.specs.Answer.{capped}
use Rattle.cip.specs.Statuses.{has_word}
use Rattle.cip.specs.Writes.{Written, Laid}
use Rattle.cip.proofs.Laws.{finished}

-- ---- replies

-- the bytes of a reply stand behind its header
pub reply-body : (service : ℕ) (s : Status) (bytes : List ℕ) → reply service s [] ++ bytes ≡ reply service s bytes
unfolding reply
reply-body service (general code) bytes = refl
reply-body service (extended code word) bytes = refl

-- without an extended word a header has four bytes
pub header_four : (service : ℕ) (s : Status) → has_word s ≡ false → length (reply service s []) ≡ 4
unfolding reply
header_four service (general code) e = refl
header_four service (extended code word) e = clash (cc e)

pub reply_long : (service : ℕ) (s : Status) (bytes : List ℕ) → has_word s ≡ false → length (reply service s bytes) ≡ 4 + length bytes
unfolding reply
reply_long service (general code) bytes e = omega arith
reply_long service (extended code word) bytes e = clash (cc e)

pub header_then : (service : ℕ) (s : Status) (bytes old x y : List ℕ) (h : ℕ) → has_word s ≡ false → Written 0 (reply service s []) old h x → y ≡ put x 4 bytes
    → 4 + length bytes ≤ length old → Written 0 (reply service s bytes) old (4 + length bytes) y
header_then service s bytes old x y h e w f l = record {
  length_is = sym (reply_long service s bytes e);
  buffer_is = rw reply-body at (put_then _ _ _ _ _ _ _ w.buffer_is f (omega (arith, header_four service s e)) l);
}

pub sent : (limit service : ℕ) (s : Status) (bytes old x y z : List ℕ) (h r : ℕ) → has_word s ≡ false → Written 0 (reply service s []) old h x
    → y ≡ put x 4 bytes → r ≡ 4 + length bytes → z ≡ zeroed (4 + length bytes) (room limit) y → 4 + length bytes ≤ room limit → room limit ≤ length old
    → Laid limit (reply service s bytes) old r z
sent limit service s bytes old x y z h r e w f g q l m =
    finished limit _ _ old y z r (header_then service s bytes old x y h e w f (omega arith)) g q (omega (arith, reply_long service s bytes e)) m

-- ---- item 20

module _ (service limit : ℕ) (bytes : List ℕ) where
  pub capped_fits : length bytes ≤ limit → capped service limit bytes ≡ bytes
  unfolding capped
  capped_fits h = rw (le-leb (length bytes) limit h)

  pub capped-large : limit < length bytes → capped service limit bytes ≡ fail service too_large
  unfolding capped
  capped-large h = rw (lt-leb (length bytes) limit h)

module _ (limit service : ℕ) (s : Status) (old new : List ℕ) (r : ℕ) (short : has_word s ≡ false) where
  pub refused-large : limit < 4 → Laid limit (fail service too_large) old r new → Laid limit (capped service limit (fail service s)) old r new
  refused-large h l = rw (capped-large service limit (fail service s) (omega (arith, header_four service s short))) l

  pub refused_well : 4 ≤ limit → Laid limit (fail service s) old r new → Laid limit (capped service limit (fail service s)) old r new
  refused_well h l = rw (capped_fits service limit (fail service s) (omega (arith, header_four service s short))) l
