-- Point 3 of a program: every run hears what the definition's entry says, so both theorems of Point3 hold of what it hears; and there are such runs.
-- Assumes nothing.
use mathlib.Core.Path.{◌≡◌, refl, ap, ◌∙◌}
use mathlib.Core.List.{List, [], ◌∷◌}
use Rattle.std.specs.Prelude.{Result, Ok, Err}
use Prim.Native.Nat.{ℕ, zero, suc, ◌≤◌, ◌<◌}
use native.Mathlib.Omega.{arith}
use lib.ListN.{length, take}
use borrow.Author.Tests.{le-ltb}
use Rattle.laws.specs.Put.{laid}
use Rattle.laws.proofs.Put.{take-laid}
use Rattle.definition.specs.Reply.{room}
use Rattle.definition.specs.Tables.{Tables, Flags}
use Rattle.definition.specs.Answer.{answer}
use Rattle.definition.specs.Entry.{Outcome, refused, replied, lay, entry}
use Rattle.definition.proofs.Enters.{Ways, stopped, taken, enters}
use Rattle.logix.specs.Entering.{IsOutcome, number_of}
use Rattle.logix.specs.declared.entry.Refusal.{Refusal}
use Rattle.logix.specs.declared.entry.Refusal.TheVariants.{RequestTooLong, LimitTooLarge, BufferTooShort, TablesInvalid}
use Rattle.continued.specs.Reads.{Sent, Turn, ours, other, Answered, heard, talk}
use Rattle.continued.specs.Point3.{Memory, respond, hears, leaves, Event, message, changed, steps}
use Rattle.continued.specs.Program.{Runs, ended, next_ours, next_other, ProgramStep, ByStep, ByEvent, RunsOf, Leaves, Faithful, Total, ReadsDelivered}
use Rattle.continued.specs.Program.{PagesListed, ProgramPoint3, RunsExist, told, ByMessage, Taken, ByAnswer, MessagePoint3, AnswerPoint3}
use Rattle.continued.proofs.Point3.{continued_reads, continued_pages}

-- ---- over any states and events: a run whose turns leave what the controller leaves hears what it says

module _ {State Event : Type 0} (hear : Sent → State → Outcome) (after : Sent → State → State) (step : Event → State → State)
    (Hears : Sent → State → Outcome → State → Type 0) (Steps : Event → State → State → Type 0) where
  runs_talk : ((s : Sent) (m left : State) (o : Outcome) → Hears s m o left → (o ≡ hear s m) × (left ≡ after s m))
      → ((e : Event) (m left : State) → Steps e m left → left ≡ step e m)
      → (h : ℕ) (m : State) (answers : List Answered) (turns : List (Turn Event)) (out : List Answered)
      → Runs Hears Steps h m answers turns out → out ≡ talk hear after step h m answers turns
  unfolding talk
  runs_talk hs es h m answers [] out ended = refl
  runs_talk hs es h m answers (ours s ∷ rest) out (next_ours {left = left} {o = o} e run) =
      runs_talk hs es h left (heard h s.limit o answers) rest out run
      ∙ ap (λ (x : State). talk hear after step h x (heard h s.limit o answers) rest) (hs s m left o e).1
      ∙ ap (λ (x : Outcome). talk hear after step h (after s m) (heard h s.limit x answers) rest) (hs s m left o e).0
  runs_talk hs es h m answers (other u ∷ rest) out (next_other {left = left} e run) =
      runs_talk hs es h left answers rest out run ∙ ap (λ (x : State). talk hear after step h x answers rest) (es u m left e)

module _ {State Event : Type 0} (Hears : Sent → State → Outcome → State → Type 0) (Steps : Event → State → State → Type 0) where
  some-run : ((s : Sent) (m : State) → (o : Outcome) × (left : State) × Hears s m o left) → ((e : Event) (m : State) → (left : State) × Steps e m left)
      → (h : ℕ) (m : State) (answers : List Answered) (turns : List (Turn Event)) → (out : List Answered) × Runs Hears Steps h m answers turns out
  some-run hs es h m answers [] = (answers, ended)
  some-run hs es h m answers (ours s ∷ rest) =
      let x = hs s m in
      let r = some-run hs es h x.1 (heard h s.limit x.0 answers) rest in (r.0, next_ours x.2 r.1)
  some-run hs es h m answers (other e ∷ rest) =
      let x = es e m in
      let r = some-run hs es h x.0 answers rest in (r.0, next_other x.1 r.1)

-- ---- on a tag memory

module _ (t : Tables) (f : Flags) (step : ProgramStep) (faithful : Faithful t f step) where
  hears_is : (s : Sent) (m left : Memory) (o : Outcome) → ByStep step s m o left → (o ≡ hears t f s m) × (left ≡ leaves t f s m)
  hears_is s m left o (buffer, e) = let x = faithful s m o buffer left e in (x.outcome_is, x.memory_is)

  steps_is : (e : Event) (m left : Memory) → ByEvent step e m left → left ≡ steps t f e m
  steps_is (message s) m left (o, e) = (hears_is s m left o e).1
  steps_is (changed memory) m left e = e

  run_is : (h : ℕ) (m : Memory) (turns : List (Turn Event)) (out : List Answered) → RunsOf step h m [] turns out
      → out ≡ talk (hears t f) (leaves t f) (steps t f) h m [] turns
  run_is h m turns out = runs_talk (hears t f) (leaves t f) (steps t f) (ByStep step) (ByEvent step) hears_is steps_is h m [] turns out

pub program_point_3 : ProgramPoint3
program_point_3 t f step faithful = (reads, pages)
  where
    reads : ReadsDelivered t f step
    reads path elements g m turns out v fair run =
        rw (run_is t f step faithful (length g.selected.header) m turns out run) (continued_reads t f path elements g m turns v fair)

    pages : PagesListed t f step
    pages scope attributes first m turns out v accepted fair run =
        rw (run_is t f step faithful 0 m turns out run) (continued_pages t f scope attributes first m turns v accepted fair)

pub runs_exist : RunsExist
runs_exist step total h m answers turns =
    some-run (ByStep step) (ByEvent step) by_step by_event h m answers turns
  where
    by_step : (s : Sent) (m : Memory) → (o : Outcome) × (left : Memory) × ByStep step s m o left
    by_step s m = let x = total s m in (x.0, x.2, (x.1, x.3))

    by_event : (e : Event) (m : Memory) → (left : Memory) × ByEvent step e m left
    by_event (message s) m = let x = total s m in (x.2, (x.0, (x.1, x.3)))
    by_event (changed memory) m = (memory, refl)

-- ---- one notion of a step: the outcome that the entry's own is told as, the entry's buffer and its memory

-- a reply is told by its length, and read from the buffer
abbrev pub told_as : Outcome → (buffer : List ℕ) → Outcome
told_as (refused number) buffer = refused number
told_as (replied bytes) buffer = replied (take (length bytes) buffer)

told_is : (t : Tables) (f : Flags) (s : Sent) (m : Memory) → told_as (respond t f s m).outcome (respond t f s m).buffer ≡ (respond t f s m).outcome
unfolding respond
told_is t f s m = go (enters t f m s.request s.limit s.buffer)
  where
    go : Ways t f m s.request s.limit s.buffer → told_as (respond t f s m).outcome (respond t f s m).buffer ≡ (respond t f s m).outcome
    go (stopped number a b e) = rw e refl
    go (taken a b c d e) = rw e (ap replied (take-laid (room s.limit) s.buffer (answer t f m s.request s.limit).reply))

pub leaves_by : (t : Tables) (f : Flags) (s : Sent) (m : Memory) (o : Outcome) (buffer left : List ℕ)
    → o ≡ told_as (respond t f s m).outcome buffer → buffer ≡ (respond t f s m).buffer → left ≡ (respond t f s m).memory
    → Leaves (respond t f s m) o buffer left
leaves_by t f s m o buffer left e b l = record {
  outcome_is = e ∙ ap (told_as (respond t f s m).outcome) b ∙ told_is t f s m;
  buffer_is = b;
  memory_is = l;
}

-- ---- `message`

told_says : (r : Result ℕ Refusal) (d : Outcome) (buffer : List ℕ) → IsOutcome r d → told r buffer ≡ told_as d buffer
told_says (Ok n) (replied bytes) buffer e = rw e refl
told_says (Ok n) (refused number) buffer e = absurd e
told_says (Err why) (replied bytes) buffer e = absurd e
told_says (Err why) (refused number) buffer e = rw e refl

refusal_by : (number : ℕ) → 0 < number → number ≤ 4 → (why : Refusal) × (number_of why ≡ number)
refusal_by zero a b = absurd (omega arith)
refusal_by (suc zero) a b = (RequestTooLong, refl)
refusal_by (suc (suc zero)) a b = (LimitTooLarge, refl)
refusal_by (suc (suc (suc zero))) a b = (BufferTooShort, refl)
refusal_by (suc (suc (suc (suc zero)))) a b = (TablesInvalid, refl)
refusal_by (suc (suc (suc (suc (suc n))))) a b = absurd (omega arith)

-- some result says the entry's outcome
result_of : (t : Tables) (f : Flags) (s : Sent) (m : Memory) → (r : Result ℕ Refusal) × IsOutcome r (respond t f s m).outcome
unfolding respond
result_of t f s m = go (enters t f m s.request s.limit s.buffer)
  where
    go : Ways t f m s.request s.limit s.buffer → (r : Result ℕ Refusal) × IsOutcome r (respond t f s m).outcome
    go (stopped number a b e) = let x = refusal_by number a b in (Err x.0, rw e x.1)
    go (taken a b c d e) = (Ok (length (answer t f m s.request s.limit).reply), rw e refl)

pub message_faithful : (t : Tables) (f : Flags) → Faithful t f (ByMessage t f)
message_faithful t f s m o buffer left (r, e, x) =
    leaves_by t f s m o buffer left (e ∙ told_says r (respond t f s m).outcome buffer x.outcome_is) x.buffer_is x.memory_is

pub message_point_3 : MessagePoint3
message_point_3 t f = (program_point_3 t f (ByMessage t f) (message_faithful t f), total)
  where
    total : Total (ByMessage t f)
    total s m =
        let x = result_of t f s m in
        let e = respond t f s m in
        (told x.0 e.buffer, e.buffer, e.memory, (x.0, refl, record { outcome_is = x.1; buffer_is = refl; memory_is = refl }))

-- ---- `answer` on valid tables

-- past the entry the dispatcher's answer is laid
laid_by : (t : Tables) (f : Flags) (s : Sent) (m : Memory) → Taken t s m → respond t f s m ≡ lay s.limit s.buffer (answer t f m s.request s.limit)
unfolding respond entry
laid_by t f s m k =
    rw (
      le-ltb 65535 (length s.request) k.request_fits,
      le-ltb 65535 s.limit k.limit_fits,
      le-ltb (length s.buffer) (room s.limit) k.has_room,
      k.tables,
    )
    refl

pub answer_point_3 : AnswerPoint3
answer_point_3 t f = (program_point_3 t f (ByAnswer t f) faithful, total)
  where
    faithful : Faithful t f (ByAnswer t f)
    faithful s m o buffer left (k, n, e, x) =
        let l = laid_by t f s m k in
        leaves_by t f s m o buffer left (rw l (rw x.length_is at e)) (rw l x.buffer_is) (rw l x.memory_is)

    total : (s : Sent) (m : Memory) → Taken t s m → (o : Outcome) × (buffer left : List ℕ) × ByAnswer t f s m o buffer left
    total s m k =
        let a = answer t f m s.request s.limit in
        let buffer = laid (room s.limit) s.buffer a.reply in (
          replied (take (length a.reply) buffer),
          buffer,
          a.memory,
          (k, length a.reply, refl, record { length_is = refl; buffer_is = refl; memory_is = refl }),
        )
