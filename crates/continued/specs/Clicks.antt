-- Document 02, P13, of a program: masked writes in a row, with messages and other events between them that leave tag memory as it was. Nothing is known of
-- the program but that each step leaves the definition's outcome, buffer and memory: `Faithful`, which the contract of `message` gives.
use Rattle.std.specs.Prelude.{◌≡◌, true, List, [], ◌∷◌, ℕ, length, get_or}
use Rattle.laws.specs.Tests.{every}
use Rattle.definition.specs.Segment.{Segment}
use Rattle.definition.specs.Tables.{Tables, Flags}
use Rattle.definition.specs.Valid.{valid}
use Rattle.definition.specs.Entry.{Outcome, replied}
use Rattle.definition.specs.Joined.{Masks, join, join_row, no_change, is_byte}
use Rattle.definition.specs.Promises.{Masking, Targets, TakesMasks, Sendable}
use Rattle.continued.specs.Reads.{Sent}
use Rattle.continued.specs.Point3.{Memory, Event}
use Rattle.continued.specs.Program.{ProgramStep, ByEvent, Faithful, ByMessage}

-- a step that is answered with status 0
pub record Accepted (step : ProgramStep) (s : Sent) (m left : Memory) : Type 0 where
  pub bytes : List ℕ
  pub buffer : List ℕ
  pub steps : step s m (replied bytes) buffer left
  pub success_is : get_or bytes 2 0 ≡ 0x00

-- a masked write of these masks to a target that starts at this byte, in any bytes and by any path
pub record MasksAt (t : Tables) (f : Flags) (start : ℕ) (m : Masks) (s : Sent) : Type 0 where
  pub path : List Segment
  pub masking : Masking path m s.request
  pub targets : Targets t f path start

-- one with masks of a size to any path whose target starts there and takes them; it enters
pub record Single (t : Tables) (f : Flags) (start size : ℕ) (m : Masks) (s : Sent) : Type 0 where
  pub path : List Segment
  pub masking : Masking path m s.request
  pub takes_masks : TakesMasks t f path start size
  pub sendable : Sendable s.request s.limit s.buffer

-- the reply to an accepted one: CE 00 00 00
abbrev pub acceptance : Outcome
acceptance = replied (0xCE ∷ 0x00 ∷ 0x00 ∷ 0x00 ∷ [])

-- events one behind the other, of which nothing is asked
pub data Passes (step : ProgramStep) : Memory → List Event → Memory → Type 0 where
  passed : {m : Memory} → Passes step m [] m
  passes : {m left out : Memory} {e : Event} {rest : List Event} → ByEvent step e m left → Passes step left rest out → Passes step m (e ∷ rest) out

-- two, and between them a list of messages and other events that leaves tag memory as it was: the single one is accepted and leaves what the second left
abbrev pub Joins : Tables → Flags → ProgramStep → Type 0
Joins t f step =
    (start : ℕ) (first next : Masks) (a b c : Sent) (between : List Event) (m one two left : Memory) (o : Outcome) (buffer : List ℕ)
    → MasksAt t f start first a → MasksAt t f start next b → length first.ors ≡ length next.ors
    → Accepted step a m one → Passes step one between one → Accepted step b one two
    → Single t f start (length first.ors) (join first next) c → step c m o buffer left → (o ≡ acceptance) × (left ≡ two)

-- a row of them, each with such a list behind it
pub data Clicked (t : Tables) (f : Flags) (step : ProgramStep) (start size : ℕ) : Memory → List Masks → Memory → Type 0 where
  none_clicked : {m : Memory} → Clicked t f step start size m [] m
  clicked : {m one left : Memory} {masks : Masks} {rest : List Masks} {s : Sent} {between : List Event}
      → MasksAt t f start masks s → length masks.ors ≡ size → Accepted step s m one → Passes step one between one
      → Clicked t f step start size one rest left → Clicked t f step start size m (masks ∷ rest) left

abbrev pub RowJoins : Tables → Flags → ProgramStep → Type 0
RowJoins t f step =
    (start size : ℕ) (first : Masks) (rest : List Masks) (c : Sent) (m two left : Memory) (o : Outcome) (buffer : List ℕ)
    → Clicked t f step start size m (first ∷ rest) two
    → Single t f start size (join_row first rest) c → step c m o buffer left → (o ≡ acceptance) × (left ≡ two)

-- zeros with all ones, on a tag memory of bytes
abbrev pub NoChange : Tables → Flags → ProgramStep → Type 0
NoChange t f step =
    (start size : ℕ) (c : Sent) (m left : Memory) (o : Outcome) (buffer : List ℕ)
    → valid t (length m) ≡ true → every is_byte m ≡ true
    → Single t f start size (no_change size) c → step c m o buffer left → (o ≡ acceptance) × (left ≡ m)

abbrev pub ProgramJoins : Type 1
ProgramJoins = (t : Tables) (f : Flags) (step : ProgramStep) → Faithful t f step → Joins t f step × RowJoins t f step × NoChange t f step

abbrev pub MessageJoins : Type 0
MessageJoins = (t : Tables) (f : Flags) → Joins t f (ByMessage t f) × RowJoins t f (ByMessage t f) × NoChange t f (ByMessage t f)

-- what the type of a slice adds: `message` on a tag memory of bytes leaves it as it was, whatever else is lent
abbrev pub Rests : Tables → Flags → (request old new : List ℕ) → Type 0
Rests t f request old new = (path : List Segment) (start size : ℕ) → TakesMasks t f path start size → Masking path (no_change size) request → new ≡ old
