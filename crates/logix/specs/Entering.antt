-- What a message comes to, as the code says it: each refusal by document 01's number, a reply by its length, its bytes being the buffer's first.
use Rattle.std.specs.Prelude.{◌≡◌, not, List, ℕ, ltb, length, Result, Ok, Err}
use Rattle.laws.specs.Pick.{pick}
use Rattle.definition.specs.Reply.{room}
use Rattle.definition.specs.Tables.{Tables}
use Rattle.definition.specs.Valid.{valid}
use Rattle.definition.specs.Entry.{Outcome as Defined, refused, replied, Entered}
use Rattle.logix.specs.declared.entry.Refusal.{Refusal}
use Rattle.logix.specs.declared.entry.Refusal.TheVariants.{RequestTooLong, LimitTooLarge, BufferTooShort, TablesInvalid}

abbrev pub number_of : Refusal → ℕ
number_of RequestTooLong = 1
number_of LimitTooLarge = 2
number_of BufferTooShort = 3
number_of TablesInvalid = 4

-- the entry's refusals that are no matter of the request, in their order
unfoldable pub entered : Tables → (memory limit buffer : ℕ) → Result (Unit {0}) Refusal
entered t memory limit buffer =
    pick (ltb 65535 limit) (Err LimitTooLarge)
    (pick (ltb buffer (room limit)) (Err BufferTooShort)
    (pick (not (valid t memory)) (Err TablesInvalid) (Ok tt)))

abbrev pub IsOutcome : Result ℕ Refusal → Defined → Type 0
IsOutcome (Ok n) (replied bytes) = n ≡ length bytes
IsOutcome (Ok n) (refused number) = ⊥
IsOutcome (Err why) (replied bytes) = ⊥
IsOutcome (Err why) (refused number) = number_of why ≡ number

-- outcome, every byte of the reply buffer and every byte of tag memory are the definition's
pub record Enters (e : Entered) (r : Result ℕ Refusal) (buffer memory : List ℕ) : Type 0 where
  pub outcome_is : IsOutcome r e.outcome
  pub buffer_is : buffer ≡ e.buffer
  pub memory_is : memory ≡ e.memory
