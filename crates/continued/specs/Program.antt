-- Point 3 of a program: a run over a list of turns, and what is heard of it. Nothing is known of the program but that each step leaves the definition's
-- outcome, buffer and memory: `Leaves`. The contracts of `message` and of `answer` on valid tables give such steps; those of the C entry points in `ciplink`.
use Rattle.std.specs.Prelude.{◌≡◌, true, List, [], ◌∷◌, ℕ, ◌≤◌, length, take, Result, Ok, Err}
use Rattle.laws.specs.Tests.{every}
use Rattle.definition.specs.Reply.{room}
use Rattle.definition.specs.Tables.{Tables, Flags}
use Rattle.definition.specs.Valid.{valid}
use Rattle.definition.specs.Segment.{Segment}
use Rattle.definition.specs.Symbols.{is_listed, due}
use Rattle.definition.specs.Read.{selected_bytes}
use Rattle.definition.specs.Answer.{answer}
use Rattle.definition.specs.Entry.{Outcome, refused, replied, Entered}
use Rattle.definition.specs.Promises.{Grants}
use Rattle.services.specs.Answers.{Answers}
use Rattle.logix.specs.Entering.{number_of, Enters}
use Rattle.logix.specs.declared.entry.Refusal.{Refusal}
use Rattle.continued.specs.Reads.{Sent, Turn, ours, other, Answered, heard, Delivered}
use Rattle.continued.specs.Pages.{Listed}
use Rattle.continued.specs.Point3.{Memory, respond, Event, message, changed, Reads, FairReads, Pages, FairList}

-- ---- runs, over any states and events: from a state and what was heard before, a list of turns to what is heard in the end, the newest first

module _ {State Event : Type 0} (Hears : Sent → State → Outcome → State → Type 0) (Steps : Event → State → State → Type 0) where
  pub data Runs (h : ℕ) : State → List Answered → List (Turn Event) → List Answered → Type 0 where
    ended : {m : State} {answers : List Answered} → Runs h m answers [] answers
    next_ours : {m left : State} {answers : List Answered} {s : Sent} {rest : List (Turn Event)} {out : List Answered} {o : Outcome}
        → Hears s m o left → Runs h left (heard h s.limit o answers) rest out → Runs h m answers (ours s ∷ rest) out
    next_other : {m left : State} {answers : List Answered} {e : Event} {rest : List (Turn Event)} {out : List Answered}
        → Steps e m left → Runs h left answers rest out → Runs h m answers (other e ∷ rest) out

-- ---- on a tag memory: what one step of a program is, by the outcome that it tells, the reply buffer and the memory that it leaves

abbrev pub ProgramStep : Type 1
ProgramStep = Sent → Memory → Outcome → (buffer left : List ℕ) → Type 0

abbrev pub ByStep : ProgramStep → Sent → Memory → Outcome → Memory → Type 0
ByStep step s m o left = (buffer : List ℕ) × step s m o buffer left

abbrev pub ByEvent : ProgramStep → Event → Memory → Memory → Type 0
ByEvent step (message s) m left = (o : Outcome) × ByStep step s m o left
ByEvent step (changed memory) m left = left ≡ memory

abbrev pub RunsOf : ProgramStep → (h : ℕ) → Memory → List Answered → List (Turn Event) → List Answered → Type 0
RunsOf step = Runs (ByStep step) (ByEvent step)

-- the definition's outcome, buffer and memory
pub record Leaves (e : Entered) (o : Outcome) (buffer left : List ℕ) : Type 0 where
  pub outcome_is : o ≡ e.outcome
  pub buffer_is : buffer ≡ e.buffer
  pub memory_is : left ≡ e.memory

abbrev pub Faithful : Tables → Flags → ProgramStep → Type 0
Faithful t f step = (s : Sent) (m : Memory) (o : Outcome) (buffer left : List ℕ) → step s m o buffer left → Leaves (respond t f s m) o buffer left

-- every message has a step
abbrev pub Total : ProgramStep → Type 0
Total step = (s : Sent) (m : Memory) → (o : Outcome) × (buffer left : List ℕ) × step s m o buffer left

-- ---- what is claimed of a program's runs

abbrev pub ReadsDelivered : Tables → Flags → ProgramStep → Type 0
ReadsDelivered t f step =
    (path : List Segment) (elements : ℕ) (g : Grants t f path elements) (m : Memory) (turns : List (Turn Event)) (out : List Answered)
    → valid t (length m) ≡ true → FairReads t f (Reads path elements) g.selected m turns
    → RunsOf step (length g.selected.header) m [] turns out
    → Delivered (selected_bytes g.selected m) (length g.selected.header) out

abbrev pub PagesListed : Tables → Flags → ProgramStep → Type 0
PagesListed t f step =
    (scope : ℕ) (attributes : List ℕ) (first : ℕ) (m : Memory) (turns : List (Turn Event)) (out : List Answered)
    → valid t (length m) ≡ true → every is_listed attributes ≡ true
    → FairList t f (Pages t scope attributes) scope attributes first m turns
    → RunsOf step 0 m [] turns out
    → Listed (due t scope attributes first) out

abbrev pub Point3Holds : Tables → Flags → ProgramStep → Type 0
Point3Holds t f step = ReadsDelivered t f step × PagesListed t f step

-- of every program whose steps leave what the definition leaves
abbrev pub ProgramPoint3 : Type 1
ProgramPoint3 = (t : Tables) (f : Flags) (step : ProgramStep) → Faithful t f step → Point3Holds t f step

-- every list of turns has a run, from every memory
abbrev pub RunsExist : Type 1
RunsExist =
    (step : ProgramStep) → Total step → (h : ℕ) (m : Memory) (answers : List Answered) (turns : List (Turn Event))
    → (out : List Answered) × RunsOf step h m answers turns out

-- ---- the steps of `message` and of `answer` on valid tables, by their contracts alone

-- what a result of `message` tells: a reply is the buffer's first bytes
abbrev pub told : Result ℕ Refusal → (buffer : List ℕ) → Outcome
told (Ok n) buffer = replied (take n buffer)
told (Err why) buffer = refused (number_of why)

abbrev pub ByMessage : Tables → Flags → ProgramStep
ByMessage t f s m o buffer left = (r : Result ℕ Refusal) × (o ≡ told r buffer) × Enters (respond t f s m) r buffer left

-- where `answer` may be called
pub record Taken (t : Tables) (s : Sent) (m : Memory) : Type 0 where
  pub request_fits : length s.request ≤ 65535
  pub limit_fits : s.limit ≤ 65535
  pub has_room : room s.limit ≤ length s.buffer
  pub tables : valid t (length m) ≡ true

abbrev pub ByAnswer : Tables → Flags → ProgramStep
ByAnswer t f s m o buffer left =
    Taken t s m × (n : ℕ) × (o ≡ replied (take n buffer)) × Answers s.limit (answer t f m s.request s.limit) s.buffer n buffer left

abbrev pub MessagePoint3 : Type 0
MessagePoint3 = (t : Tables) (f : Flags) → Point3Holds t f (ByMessage t f) × Total (ByMessage t f)

abbrev pub AnswerPoint3 : Type 0
AnswerPoint3 =
    (t : Tables) (f : Flags)
    → Point3Holds t f (ByAnswer t f) × ((s : Sent) (m : Memory) → Taken t s m → (o : Outcome) × (buffer left : List ℕ) × ByAnswer t f s m o buffer left)
