-- The fields are the definition's; with them the one read, and without them 0x13.
use Rattle.services.proofs.Serving.{read_of, read_short}
use Rattle.services.proofs.targets.serve_read.Goals as goal

pub returns-in-Some : goal.returns-in-Some
returns-in-Some c = read_of _ _ _ c.args.g _ _ _ _ _ _ c.read_fields.ensures _ c.in-Some.is c.read.ensures

pub returns-in-None : goal.returns-in-None
returns-in-None c = read_short _ _ _ c.args.g _ _ _ _ _ _ c.read_fields.ensures c.in-None.is c.fail.ensures
