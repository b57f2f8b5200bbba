-- Point 3 and the masked writes in a row (P13) of the C entry points: runs whose steps meet the contract of `ciplink_message`, or of `ciplink_answer`, and
-- nothing else is known of them.
use Rattle.std.specs.Prelude.{◌≡◌, List, ℕ, ◌-◌, ltb, take}
use Rattle.laws.specs.Pick.{pick}
use Rattle.definition.specs.Tables.{Tables}
use Rattle.definition.specs.Entry.{Outcome, refused, replied}
use Rattle.continued.specs.Reads.{Sent}
use Rattle.continued.specs.Point3.{Memory, respond}
use Rattle.continued.specs.Program.{ProgramStep, Total, Point3Holds, Taken, ByAnswer}
use Rattle.continued.specs.Clicks.{Joins, RowJoins, NoChange}
use Rattle.model.specs.Tables.{flags_in}
use Rattle.ciplink.specs.Entries.{ToldReply}

-- what the 64 bits of `ciplink_message` tell: a reply of so many of the buffer's first bytes, or from 0x1_0000_0000 on a refusal's number
abbrev pub told_by : (code : ℕ) (buffer : List ℕ) → Outcome
told_by code buffer = pick (ltb code 0x100000000) (replied (take code buffer)) (refused (code - 0x100000000))

abbrev pub ByCiplinkMessage : Tables → (flags : ℕ) → ProgramStep
ByCiplinkMessage t flags s m o buffer left = (code : ℕ) × (o ≡ told_by code buffer) × ToldReply (respond t (flags_in flags) s m) code buffer left

-- the contract of `ciplink_answer` is that of `answer`, with flags as bits
abbrev pub ByCiplinkAnswer : Tables → (flags : ℕ) → ProgramStep
ByCiplinkAnswer t flags = ByAnswer t (flags_in flags)

abbrev pub CiplinkMessagePoint3 : Type 0
CiplinkMessagePoint3 = (t : Tables) (flags : ℕ) → Point3Holds t (flags_in flags) (ByCiplinkMessage t flags) × Total (ByCiplinkMessage t flags)

abbrev pub CiplinkAnswerPoint3 : Type 0
CiplinkAnswerPoint3 =
    (t : Tables) (flags : ℕ)
    → Point3Holds t (flags_in flags) (ByCiplinkAnswer t flags)
    × ((s : Sent) (m : Memory) → Taken t s m → (o : Outcome) × (buffer left : List ℕ) × ByCiplinkAnswer t flags s m o buffer left)

abbrev pub CiplinkMessageJoins : Type 0
CiplinkMessageJoins =
    (t : Tables) (flags : ℕ)
    → Joins t (flags_in flags) (ByCiplinkMessage t flags) × RowJoins t (flags_in flags) (ByCiplinkMessage t flags)
    × NoChange t (flags_in flags) (ByCiplinkMessage t flags)
