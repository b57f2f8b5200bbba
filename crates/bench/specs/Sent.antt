-- What sending a request to a bench's controller leaves: the definition's entry, with the reply's length as a number.
use Rattle.std.specs.Prelude.{◌≡◌, ℕ, List, length, Result, Ok, Err}
use Rattle.definition.specs.Entry.{Outcome as Defined, refused, replied, Entered}
use Rattle.logix.specs.declared.entry.Refusal.{Refusal}

-- a reply's bytes; a refusal has none
abbrev pub length_of : Defined → ℕ
length_of (replied bytes) = length bytes
length_of (refused number) = 0

abbrev pub length_in : Result ℕ Refusal → ℕ
length_in (Ok n) = n
length_in (Err why) = 0

-- the reply's length, every byte of the buffer and every byte of tag memory are the definition's
pub record Sends (e : Entered) (r : ℕ) (buffer memory : List ℕ) : Type 0 where
  pub length_is : r ≡ length_of e.outcome
  pub buffer_is : buffer ≡ e.buffer
  pub memory_is : memory ≡ e.memory
