-- The chain answers as the library's law of it says, which is the definition's.
use Rattle.std.proofs.Common.{rules, tests}
use Rattle.laws.proofs.Chains.{position_slice}
use Rattle.definition.specs.Lookup.{id_in}
use Rattle.model.specs.Rows.{id_is}
use Rattle.model.proofs.lookup.find_id.Goals as goal

pub returns : goal.returns
unfolding id_in
returns g c = position_slice (id_is c.args.scope c.args.id) _ c.position.ensures.ran (cc) (λ x b q k. search (rules, tests))
