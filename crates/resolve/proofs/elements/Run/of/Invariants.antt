-- The run from here on completes the whole one; each element that is passed leaves fewer segments.
use lib.ListN.{length}
use Rattle.resolve.specs.Paths.{left}
use Rattle.resolve.proofs.Lefts.{Running}
use Rattle.resolve.proofs.elements.Run.of.Given as goal

abbrev pub invariant-loop-value : goal.invariant-loop-value
invariant-loop-value l = Running (left l.from) l.run

abbrev pub decreases-loop-value : goal.decreases-loop-value
decreases-loop-value l = length (left l.run.rest)
