-- What the pieces of an envelope leave in its buffer.
use Rattle.std.specs.Prelude.{◌≡◌, Bool, List, ◌++◌, ℕ, ◌+◌, ◌-◌, ◌*◌, ◌≤◌, ◌<◌, leb, eqb, length, get_or, take, drop}
use Rattle.laws.specs.Pick.{pick}
use Rattle.laws.specs.Put.{put, zeroed}
use Rattle.definition.specs.Bytes.{le16}
use Rattle.definition.specs.Reply.{Answer, Status, reply, fail, room, success, part_failed, too_large}
use Rattle.definition.specs.Envelope.{envelope_service}
use Rattle.cip.specs.Writes.{Laid}
use Rattle.logix.specs.declared.parts.PartReply.{PartReply}

-- a part's reply stands at `used` where it fits the limit, else nothing is written
pub record Copied (bytes : List ℕ) (limit used : ℕ) (old : List ℕ) (r : PartReply) (new : List ℕ) : Type 0 where
  pub length_is : r.len ≡ length bytes
  pub fine_is : r.fine ≡ eqb (get_or bytes 2 0) 0
  pub buffer_is : new ≡ pick (leb (used + length bytes) limit) (put old used bytes) old

-- a part's reply stands at `used`, where it fits the limit, and nothing behind the room changes
pub record Placed (bytes : List ℕ) (limit used : ℕ) (old : List ℕ) (r : PartReply) (new : List ℕ) : Type 0 where
  pub length_is : r.len ≡ length bytes
  pub fine_is : r.fine ≡ eqb (get_or bytes 2 0) 0
  pub stands : used + length bytes ≤ limit → take (used + length bytes) new ≡ take used old ++ bytes
  pub rest : drop (room limit) new ≡ drop (room limit) old

-- a part's answer is so placed, is no longer than its own room, and its memory is there
pub record PartAnswers (a : Answer) (budget limit used : ℕ) (old : List ℕ) (r : PartReply) (new memory : List ℕ) : Type 0 where
  pub placed : Placed a.reply limit used old r new
  pub least : length a.reply ≤ room budget
  pub memory_is : memory ≡ a.memory

-- the offset of the part that starts at `used`, counted from the count's first byte, where the limit is not passed yet; else nothing is written
abbrev pub marked : (limit used i : ℕ) (old : List ℕ) → List ℕ
marked limit used i old = pick (leb used limit) (put old (6 + 2 * i) (le16 (used - 4))) old

abbrev pub outcome_of : Bool → Status
outcome_of fine = pick fine success part_failed

-- the end of an envelope: 0x11 past the limit, else the header and the count, and zeros from `used` on
pub record Closed (limit count used : ℕ) (fine : Bool) (old : List ℕ) (r : ℕ) (new : List ℕ) : Type 0 where
  pub large : limit < used → Laid limit (fail envelope_service too_large) old r new
  pub length_is : used ≤ limit → r ≡ used
  pub buffer_is : used ≤ limit → new ≡ zeroed used (room limit) (put old 0 (reply envelope_service (outcome_of fine) (le16 count)))
