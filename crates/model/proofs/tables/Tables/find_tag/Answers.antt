-- The chain answers as the library's law of it says, which is the definition's.
use Rattle.std.proofs.Common.{rules, tests}
use Rattle.laws.proofs.Chains.{position_slice}
use Rattle.definition.specs.Lookup.{tag_in}
use Rattle.model.specs.Rows.{tag_is}
use Rattle.model.proofs.tables.Tables.find_tag.Goals as goal

pub returns : goal.returns
unfolding tag_in
returns c = position_slice (tag_is c.args.self.now.tag_names.now c.args.scope c.args.name.now) _ c.position.ensures.ran (cc) (λ x b q k. search (rules, tests))
