use Rattle.std.specs.Prelude.{◌≡◌, Bool, length}
use Rattle.laws.specs.Tests.{pairs}
use Rattle.tables.specs.Pairs.{AnswersBy}
use Rattle.tables.proofs.each_pair.Given as goal

abbrev pub invariant-loop-row : goal.invariant-loop-row
invariant-loop-row g l =
    (p : g.row.R.Denot → g.row.R.Denot → Bool) → AnswersBy (goal.F-post g l.passes) p → pairs p l.rest ≡ pairs p l.rows

abbrev pub decreases-loop-row : goal.decreases-loop-row
decreases-loop-row g l = length l.rest
