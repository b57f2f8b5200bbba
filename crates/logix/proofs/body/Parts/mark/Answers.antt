-- A body that has its parts has all their offsets, so it is long enough for each.
use Rattle.logix.proofs.Offsets.{offsets_there}
use Rattle.logix.proofs.body.Parts.mark.Goals as goal

pub mark-requires : goal.mark-requires
mark-requires c = offsets_there c.args.self.now.body.now _ c.args.self.now.there c.args.self.now.counted
