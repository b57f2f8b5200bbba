-- Document 02, P13, of a program: each step leaves what the definition's entry leaves, so the definition's theorem speaks of it. What stands between two of a
-- row leaves tag memory as it was, and that is all that is asked of it.
-- Assumes nothing.
use mathlib.Core.Path.{◌≡◌, refl, sym, ◌∙◌}
use mathlib.Core.Bool.{true}
use mathlib.Core.List.{List, [], ◌∷◌}
use Prim.Native.Nat.{ℕ, ◌<◌}
use lib.ListN.{length, get_or}
use borrow.Author.Tests.{lt-ltb}
use Rattle.laws.specs.Tests.{every}
use Rattle.laws.proofs.Tests.{every_by}
use Rattle.definition.specs.Tables.{Tables, Flags}
use Rattle.definition.specs.Entry.{Outcome, replied, entry}
use Rattle.definition.specs.Joined.{Masks, is_byte}
use Rattle.definition.specs.Promises.{Accepts, Click, Clicks, no_more, one_more}
use Rattle.definition.proofs.Enters.{Ways, stopped, taken, enters}
use Rattle.definition.proofs.Joined.{accepted-reply, masking_first, masks-join, all_masks_join, no_change_accepted}
use Rattle.continued.specs.Reads.{Sent}
use Rattle.continued.specs.Point3.{Memory, respond}
use Rattle.continued.specs.Program.{ProgramStep, Faithful, ByMessage}
use Rattle.continued.specs.Clicks.{Accepted, MasksAt, Single, acceptance, Joins, Clicked, none_clicked, clicked, RowJoins, NoChange, ProgramJoins}
use Rattle.continued.specs.Clicks.{MessageJoins, Rests}
use Rattle.continued.proofs.Program.{message_faithful}

module _ (t : Tables) (f : Flags) (step : ProgramStep) (faithful : Faithful t f step) where
  -- an accepted step of the program is one of the definition
  click : (start : ℕ) (masks : Masks) (s : Sent) (m left : Memory) → MasksAt t f start masks s → Accepted step s m left → Click t f start m masks left
  unfolding respond
  click start masks s m left k a =
      let x = faithful s m (replied a.bytes) a.buffer left a.steps in
      record {
        path = k.path;
        message = s.request;
        limit = s.limit;
        buffer = s.buffer;
        masking = k.masking;
        targets = k.targets;
        accepted = record { bytes = a.bytes; replied_is = sym x.outcome_is; success_is = a.success_is; left_is = sym x.memory_is };
      }

  -- and where the definition accepts the single one, the program's step tells so
  single : (start size : ℕ) (masks : Masks) (c : Sent) (m two : Memory) (o : Outcome) (buffer left : List ℕ) → Single t f start size masks c
      → Accepts t f m c.request c.limit c.buffer two → step c m o buffer left → (o ≡ acceptance) × (left ≡ two)
  unfolding respond
  single start size masks c m two o buffer left k a e =
      let x = faithful c m o buffer left e in
      let first = masking_first k.path masks c.request k.masking in
      (x.outcome_is ∙ accepted-reply t f m c.request c.limit c.buffer two first a, x.memory_is ∙ a.left_is)

  joins : Joins t f step
  joins start first next a b c between m one two left o buffer ka kb same pa past pb k e =
      single start (length first.ors) _ c m two o buffer left k
      (masks-join t f start m one two first next (click start first a m one ka pa) (click start next b one two kb pb) same
      k.path c.request c.limit c.buffer k.takes_masks k.masking k.sendable) e

  clicks : (start size : ℕ) (row : List Masks) (m left : Memory) → Clicked t f step start size m row left → Clicks t f start size m row left
  clicks start size [] m left none_clicked = no_more
  clicks start size (masks ∷ rest) m left (clicked {one = one} {s = s} k n a past more) =
      one_more (click start masks s m one k a) n (clicks start size rest one left more)

  row-joins : RowJoins t f step
  row-joins start size first rest c m two left o buffer row k e =
      single start size _ c m two o buffer left k
      (all_masks_join t f start size m two first rest (clicks start size (first ∷ rest) m two row)
      k.path c.request c.limit c.buffer k.takes_masks k.masking k.sendable) e

  no_change_lem : NoChange t f step
  no_change_lem start size c m left o buffer ok bytes k e =
      single start size _ c m m o buffer left k
      (no_change_accepted t f m c.request c.limit c.buffer k.path start size ok bytes k.takes_masks k.masking k.sendable) e

pub program_joins : ProgramJoins
program_joins t f step faithful = (joins t f step faithful, row-joins t f step faithful, no_change_lem t f step faithful)

pub message-joins : MessageJoins
message-joins t f = program_joins t f (ByMessage t f) (message_faithful t f)

-- ---- what the type of a slice adds

pub bytes_of : (m : List ℕ) → ((i : ℕ) → get_or m i 0 < 256) → every is_byte m ≡ true
bytes_of m h = every_by is_byte 0 m (λ i l. lt-ltb (get_or m i 0) 256 (h i))

-- refused by the entry, or accepted: tag memory is as it was
pub rests : (t : Tables) (f : Flags) (request m : List ℕ) (limit : ℕ) (buffer new : List ℕ) → every is_byte m ≡ true
    → new ≡ (entry t f m request limit buffer).memory → Rests t f request m new
rests t f request m limit buffer new bytes e path start size takes masking = e ∙ go (enters t f m request limit buffer)
  where
    go : Ways t f m request limit buffer → (entry t f m request limit buffer).memory ≡ m
    go (stopped number a b q) = rw q refl
    go (taken a b c ok q) =
        (no_change_accepted t f m request limit buffer path start size ok bytes takes masking
        (record { request_fits = a; limit_fits = b; has_room = c })).left_is
