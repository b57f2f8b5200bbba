-- What a writer leaves: its result is the number of bytes, and these stand in the buffer.
use Rattle.std.specs.Prelude.{◌≡◌, List, ℕ, length}
use Rattle.laws.specs.Put.{put, laid}
use Rattle.definition.specs.Reply.{room}

-- the bytes put in at a position
pub record Written (at : ℕ) (bytes old : List ℕ) (r : ℕ) (new : List ℕ) : Type 0 where
  pub length_is : r ≡ length bytes
  pub buffer_is : new ≡ put old at bytes

-- a whole reply: the bytes, zeros up to max(8, limit), and then what stood there
pub record Laid (limit : ℕ) (bytes old : List ℕ) (r : ℕ) (new : List ℕ) : Type 0 where
  pub length_is : r ≡ length bytes
  pub buffer_is : new ≡ laid (room limit) old bytes
