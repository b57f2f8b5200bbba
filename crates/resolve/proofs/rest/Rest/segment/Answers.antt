-- The segment that stands here is the first one, and what follows it decodes too.
use mathlib.Core.Path.{sym}
use Rattle.path.proofs.Segments.{segments_rest}
use Rattle.resolve.specs.Paths.{left}
use Rattle.resolve.proofs.Lefts.{left_cut, left_step}
use Rattle.resolve.proofs.rest.Rest.segment.Goals as goal

pub returns-in_err-segment : goal.returns-in_err-segment
returns-in_err-segment c = rw c.from_residual.ensures (left_cut c.args.self (sym c.in_err-segment.ensures.is))

pub invariant_of-result : goal.invariant_of-result
invariant_of-result c = record { decodes = segments_rest _ _ _ _ (sym c.in_ok-segment.ensures.is) c.args.self.decodes }

pub returns : goal.returns
unfolding left
returns c = left_step c.args.self _ _ (sym c.in_ok-segment.ensures.is)
