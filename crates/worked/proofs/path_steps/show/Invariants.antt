-- It ends: a segment ends behind its start.
use Rattle.std.proofs.Common.{length, ◌-◌}
use Rattle.worked.proofs.path_steps.show.Given as goal

abbrev pub decreases-loop-first : goal.decreases-loop-first
decreases-loop-first g l = length l.path - l.at
