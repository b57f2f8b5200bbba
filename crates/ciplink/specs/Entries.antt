-- The C entry points' numbers: an outcome in 64 bits.
use Rattle.std.specs.Prelude.{◌≡◌, List, [], ◌∷◌, ℕ, ◌+◌, ◌%◌, length}
use Rattle.std.specs.Prelude.{Option, None, Some, Result, Ok, Err}
use Rattle.definition.specs.Breach.{Breach}
use Rattle.definition.specs.Entry.{Outcome, refused, replied, Entered}
use Rattle.logix.specs.Entering.{number_of}
use Rattle.whole.specs.Whole as whole
use Rattle.whole.specs.Whole.{Received}
use Rattle.whole.specs.declared.Unjoined.{Unjoined}
use Rattle.whole.specs.declared.Unjoined.TheVariants.{TooShort, TooNarrow, Turned, Refused, Unsendable}

-- the reply's length, or 0x1_0000_0000 plus the refusal's number
abbrev pub code_of : Outcome → ℕ
code_of (replied bytes) = length bytes
code_of (refused number) = 0x100000000 + number

-- what is told of broken tables in five words: rule, table, row, the other row's table and the other row; zeros where they are valid
abbrev pub told_words : Option Breach → List ℕ
told_words None = 0 ∷ 0 ∷ 0 ∷ 0 ∷ 0 ∷ []
told_words (Some b) = b.rule ∷ b.table ∷ b.row ∷ b.other_table ∷ b.other ∷ []

pub record ToldReply (e : Entered) (r : ℕ) (buffer memory : List ℕ) : Type 0 where
  pub code_is : r ≡ code_of e.outcome
  pub buffer_is : buffer ≡ e.buffer
  pub memory_is : memory ≡ e.memory

-- the number of bytes joined, or why nothing was: 0x1_0000_0000 plus the refusal's number, 0x2_0000_0000 plus the general status and 256 times the
-- extended word, 0x3_0000_0000 plus the bytes that `out` has to hold, 0x4_0000_0000 for a limit that leaves no room, 0x5_0000_0000 for what no request carries
abbrev pub unjoined_code : Unjoined → ℕ
unjoined_code (Refused why) = 0x100000000 + number_of why
unjoined_code (Turned status) = 0x200000000 + whole.code_of status
unjoined_code (TooShort n) = 0x300000000 + n % 0x100000000
unjoined_code TooNarrow = 0x400000000
unjoined_code Unsendable = 0x500000000

abbrev pub whole_code : Result ℕ Unjoined → ℕ
whole_code (Ok n) = n
whole_code (Err why) = unjoined_code why

pub record ToldWhole (w : Received) (r : ℕ) (out buffer : List ℕ) : Type 0 where
  pub code_is : r ≡ whole_code w.result
  pub out_is : out ≡ w.out
  pub buffer_is : buffer ≡ w.buffer
