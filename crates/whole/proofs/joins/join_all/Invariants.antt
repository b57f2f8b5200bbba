-- What is joined are the first of the bytes selected; the rest ends with the same chunk, and each reply is laid over the one before it.
use Rattle.std.proofs.Common.{◌≡◌, ◌-◌, ◌<◌, length, take, drop}
use Rattle.laws.specs.Put.{put, KeptFrom}
use Rattle.definition.specs.Reply.{room}
use Rattle.definition.specs.Fragment.{space}
use Rattle.whole.specs.Whole.{last_chunk}
use Rattle.whole.specs.Parts.{selected_in}
use Rattle.whole.proofs.joins.join_all.Given as goal

abbrev pub invariant-loop-n : goal.invariant-loop-n
invariant-loop-n l =
    let selected = selected_in l.c l.initial.memory l.read in
    (l.memory ≡ l.initial.memory) × (l.got < length selected) × (l.out ≡ put l.initial.out 0 (take l.got selected))
    × (length l.out ≡ length l.initial.out) × KeptFrom (room l.limit) l.initial.buf l.buf
    × (last_chunk (space l.header l.limit) (drop l.got selected) ≡ last_chunk (space l.header l.limit) selected)

abbrev pub decreases-loop-n : goal.decreases-loop-n
decreases-loop-n l = length (selected_in l.c l.initial.memory l.read) - l.got
