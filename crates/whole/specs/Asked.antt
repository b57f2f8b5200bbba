-- What is known of a request before it is sent, that it changes no tag memory, and what its reply brings.
use Rattle.std.specs.Prelude.{◌≡◌, Bool, true, List, ℕ, ◌+◌, ◌-◌, ◌≤◌, eqb, length, get_or, drop}
use Rattle.laws.specs.Pick.{pick}
use Rattle.laws.specs.Put.{put}
use Rattle.definition.specs.Reply.{room}
use Rattle.definition.specs.Tables.{Tables, Flags}
use Rattle.definition.specs.Valid.{valid}
use Rattle.definition.specs.Answer.{answer}
use Rattle.whole.specs.declared.asked.Turn.{Turn}
use Rattle.whole.specs.declared.asked.Turn.TheVariants.{Last, More}

-- a request that the entry takes
pub record Taken (can_send : Bool) (t : Tables) (memory : List ℕ) (limit buffer : ℕ) : Type 0 where
  pub sendable : can_send ≡ true
  pub limit_fits : limit ≤ 65535
  pub has_room : room limit ≤ buffer
  pub tables : valid t (length memory) ≡ true

-- a message that leaves tag memory as it was, whatever the tables
abbrev pub ChangesNothing : (message : List ℕ) → Type 0
ChangesNothing message = (t : Tables) (f : Flags) (m : List ℕ) (limit : ℕ) → (answer t f m message limit).memory ≡ m

-- ---- a reply's bytes from `first` on, joined at the number of bytes received

-- they are there, and have room
abbrev pub Holds : (reply : List ℕ) (first got out : ℕ) → Type 0
Holds reply first got out = (first ≤ length reply) × (got + (length reply - first) ≤ out)

-- the status, a reply's third byte, says whether it is the last
abbrev pub turn_of : (reply : List ℕ) (first got : ℕ) → Turn
turn_of reply first got =
    let end = got + (length reply - first) in
    pick (eqb (get_or reply 2 0) 0) (Last end) (More end)

pub record Joined (reply : List ℕ) (first got : ℕ) (old : List ℕ) (v : Turn) (new : List ℕ) : Type 0 where
  pub turn_is : v ≡ turn_of reply first got
  pub out_is : new ≡ put old got (drop first reply)
