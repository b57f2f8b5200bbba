-- Where no segment stands, or one of another kind, no element does.
use Rattle.resolve.proofs.Lefts.{lead-empty, lead-other}
use Rattle.resolve.proofs.rest.Rest.element.Goals as goal

pub returns-in_err-segment : goal.returns-in_err-segment
returns-in_err-segment c = rw c.from_residual.ensures (lead-empty _ c.in_err-segment.ensures)

pub returns-in_default : goal.returns-in_default
returns-in_default c = lead-other _ _ _ c.in_ok-segment.ensures c.in_default.not-Element
