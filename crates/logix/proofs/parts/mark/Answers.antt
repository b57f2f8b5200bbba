-- Offset i stands at byte 2 + 2 * i; behind the last one the body's end takes its place.
use Rattle.logix.proofs.Offsets.{mark_in, mark_end}
use Rattle.logix.proofs.parts.mark.Goals as goal

pub returns-then-i-count : goal.returns-then-i-count
returns-then-i-count c = mark_in _ _ _ _ _ c.if-i-count.true c.u16_at.ensures c.from.ensures

pub returns : goal.returns
returns c = mark_end _ _ _ c.if-i-count.false
