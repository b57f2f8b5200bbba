-- The chain answers as the library's law of it says, which is the definition's.
use Rattle.std.proofs.Common.{rules, tests}
use Rattle.laws.proofs.Chains.{position_slice}
use Rattle.definition.specs.Lookup.{template_in}
use Rattle.model.specs.Rows.{template_is}
use Rattle.model.proofs.tables.Tables.find_template.Goals as goal

pub returns : goal.returns
unfolding template_in
returns c = position_slice (template_is c.args.id) _ c.position.ensures.ran (cc) (λ x b q k. search (rules, tests))
