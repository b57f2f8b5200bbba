-- What a function that answers leaves, in the definition's terms.
use Rattle.std.specs.Prelude.{◌≡◌, List, ℕ, length}
use Rattle.std.specs.Prelude.{Some}
use Rattle.laws.specs.Put.{laid}
use Rattle.definition.specs.Reply.{Answer, room}
use Rattle.definition.specs.Segment.{Segment, segments}

-- the reply's length, every byte of the buffer, every byte of tag memory
pub record Answers (limit : ℕ) (a : Answer) (old : List ℕ) (r : ℕ) (new memory : List ℕ) : Type 0 where
  pub length_is : r ≡ length a.reply
  pub buffer_is : new ≡ laid (room limit) old a.reply
  pub memory_is : memory ≡ a.memory

-- the same of a path that is given by its bytes
pub record OnPath (path : List ℕ) (limit : ℕ) (answer : List Segment → Answer) (old : List ℕ) (r : ℕ) (new memory : List ℕ) : Type 0 where
  pub is : (l : List Segment) → segments path ≡ Some l → Answers limit (answer l) old r new memory
