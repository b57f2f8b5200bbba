-- It ends: each answer that brings something brings the end nearer; answers and bytes received count up together.
use Rattle.std.proofs.Common.{suc, ◌≤◌, ◌-◌}
use Rattle.worked.proofs.one_read.opened.Given as goal

abbrev pub invariant-loop-received : goal.invariant-loop-received
invariant-loop-received g l = l.answers ≤ suc l.received

abbrev pub decreases-loop-received : goal.decreases-loop-received
decreases-loop-received g l = 40 - l.received
