-- Document 01, "Dispatch and what turns a request away", items 1 to 4: the entry numbers, with nothing written; and all of it, for all inputs.
-- All of it is document 01's alone.
use Rattle.std.specs.Prelude.{List, ℕ, ltb, length}
use Rattle.laws.specs.Pick.{pick}
use Rattle.laws.specs.Put.{laid}
use Rattle.definition.specs.Reply.{Answer, room}
use Rattle.definition.specs.Tables.{Tables, Flags}
use Rattle.definition.specs.Valid.{valid}
use Rattle.definition.specs.Answer.{answer}

-- a refusal's number, or the reply's bytes
pub data Outcome : Type 0 where
  refused : ℕ → Outcome
  replied : List ℕ → Outcome

-- what a message comes to: every byte of the reply buffer and of tag memory afterwards
pub record Entered : Type 0 where
  pub outcome : Outcome
  pub buffer : List ℕ
  pub memory : List ℕ

abbrev pub refuse : ℕ → (buffer memory : List ℕ) → Entered
refuse number buffer memory = record { outcome = refused number; buffer = buffer; memory = memory }

-- the reply, zeros from its end up to max(8, limit), and then what the buffer had
abbrev pub lay : (limit : ℕ) (buffer : List ℕ) → Answer → Entered
lay limit buffer a = record { outcome = replied a.reply; buffer = laid (room limit) buffer a.reply; memory = a.memory }

-- items 1 to 4 in their order: the first that applies
unfoldable pub entry : Tables → Flags → (memory request : List ℕ) (limit : ℕ) (buffer : List ℕ) → Entered
entry t f memory request limit buffer =
    pick (ltb 65535 (length request)) (refuse 1 buffer memory)
    (pick (ltb 65535 limit) (refuse 2 buffer memory)
    (pick (ltb (length buffer) (room limit)) (refuse 3 buffer memory)
    (pick (valid t (length memory)) (lay limit buffer (answer t f memory request limit)) (refuse 4 buffer memory))))
