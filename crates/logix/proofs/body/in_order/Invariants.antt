use Rattle.std.proofs.Common.{◌+◌, ◌*◌, length}
use Rattle.logix.proofs.Offsets.{Ordered}
use Rattle.logix.proofs.body.in_order.Given as goal

abbrev pub invariant-loop-pair : goal.invariant-loop-pair
invariant-loop-pair l = Ordered l.offsets (2 + 2 * length l.offsets) l.end l.at l.pair-index
