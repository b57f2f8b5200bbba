-- It ends: a segment ends behind its start.
use Rattle.std.proofs.Common.{length, ◌-◌}
use Rattle.bench.proofs.segments.segments.Given as goal

abbrev pub decreases-loop-step : goal.decreases-loop-step
decreases-loop-step g l = length l.path - l.at
