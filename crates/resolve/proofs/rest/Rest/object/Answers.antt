-- The object that stands here is the one that these segments start with.
use Rattle.resolve.specs.Paths.{left}
use Rattle.resolve.proofs.Lefts.{left_some}
use Rattle.resolve.proofs.rest.Rest.object.Goals as goal

pub returns-in_err-object : goal.returns-in_err-object
returns-in_err-object c = rw c.from_residual.ensures (c.in_err-object.ensures (left c.args.self) (left_some c.args.self))

pub returns : goal.returns
unfolding left
returns c = let found = c.in_ok-object.ensures in rw (found.is, found.rest_is)
