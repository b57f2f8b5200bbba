-- What is left at the start of a path that decodes is the whole of it.
use Rattle.definition.specs.Segment.{segments}
use Rattle.resolve.specs.Paths.{left}
use Rattle.resolve.proofs.Lefts.{some_or}
use Rattle.resolve.proofs.rest.Rest.of.Goals as goal

pub returns : goal.returns
unfolding left
returns c = some_or (segments c.args.path.now) c.requires
