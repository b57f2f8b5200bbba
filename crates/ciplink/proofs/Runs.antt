-- The C entry points tell the entry's outcome in numbers from which it can be read back: a reply has fewer than 0x1_0000_0000 bytes.
-- Assumes nothing.
use mathlib.Core.Path.{◌≡◌, refl, ap, ◌∙◌}
use mathlib.Core.List.{List}
use Prim.Native.Nat.{ℕ, ◌+◌, ◌<◌}
use native.Mathlib.Omega.{arith}
use lib.ListN.{length}
use borrow.Author.Tests.{lt-ltb, le-ltb}
use Rattle.definition.specs.Tables.{Tables, Flags}
use Rattle.definition.specs.Entry.{Outcome, refused, replied}
use Rattle.definition.proofs.Enters.{Ways, stopped, taken, enters}
use Rattle.definition.proofs.Replies.{proper_answer}
use Rattle.continued.specs.Reads.{Sent}
use Rattle.continued.specs.Point3.{Memory, respond}
use Rattle.continued.specs.Program.{Faithful, Total}
use Rattle.continued.proofs.Clicks.{program_joins}
use Rattle.continued.proofs.Program.{program_point_3, told_as, leaves_by, answer_point_3}
use Rattle.model.specs.Tables.{flags_in}
use Rattle.ciplink.specs.Entries.{code_of}
use Rattle.ciplink.specs.Runs.{told_by, ByCiplinkMessage, CiplinkMessagePoint3, CiplinkMessageJoins, CiplinkAnswerPoint3}

abbrev Short : Outcome → Type 0
Short (refused number) = Unit {0}
Short (replied bytes) = length bytes < 0x100000000

reply-short : (t : Tables) (f : Flags) (s : Sent) (m : Memory) → Short (respond t f s m).outcome
unfolding respond
reply-short t f s m = go (enters t f m s.request s.limit s.buffer)
  where
    go : Ways t f m s.request s.limit s.buffer → Short (respond t f s m).outcome
    go (stopped number a b e) = rw e tt
    go (taken a b c d e) = rw e (omega (arith, (proper_answer t f m s.request s.limit).fits))

told_by_lem : (d : Outcome) (buffer : List ℕ) → Short d → told_by (code_of d) buffer ≡ told_as d buffer
told_by_lem (refused number) buffer k = rw (le-ltb (0x100000000 + number) 0x100000000 (omega arith)) (ap refused (omega arith))
told_by_lem (replied bytes) buffer k = rw (lt-ltb (length bytes) 0x100000000 k) refl

message_faithful : (t : Tables) (flags : ℕ) → Faithful t (flags_in flags) (ByCiplinkMessage t flags)
message_faithful t flags s m o buffer left (code, e, x) =
    let d = (respond t (flags_in flags) s m).outcome in
    leaves_by t (flags_in flags) s m o buffer left
    (e ∙ ap (λ (n : ℕ). told_by n buffer) x.code_is ∙ told_by_lem d buffer (reply-short t (flags_in flags) s m)) x.buffer_is x.memory_is

pub ciplink_message_point_3 : CiplinkMessagePoint3
ciplink_message_point_3 t flags = (program_point_3 t (flags_in flags) (ByCiplinkMessage t flags) (message_faithful t flags), total)
  where
    total : Total (ByCiplinkMessage t flags)
    total s m =
        let e = respond t (flags_in flags) s m in (
          told_by (code_of e.outcome) e.buffer,
          e.buffer,
          e.memory,
          (code_of e.outcome, refl, record { code_is = refl; buffer_is = refl; memory_is = refl }),
        )

pub ciplink_message_joins : CiplinkMessageJoins
ciplink_message_joins t flags = program_joins t (flags_in flags) (ByCiplinkMessage t flags) (message_faithful t flags)

pub ciplink_answer_point_3 : CiplinkAnswerPoint3
ciplink_answer_point_3 t flags = answer_point_3 t (flags_in flags)
