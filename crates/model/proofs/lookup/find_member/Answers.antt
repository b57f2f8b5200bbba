-- The chain answers as the library's law of it says, which is the definition's.
use Rattle.std.proofs.Common.{rules, tests}
use Rattle.laws.proofs.Chains.{position_slice}
use Rattle.definition.specs.Lookup.{member_in}
use Rattle.model.specs.Rows.{member_is}
use Rattle.model.proofs.lookup.find_member.Goals as goal

pub returns : goal.returns
unfolding member_in
returns c = position_slice (member_is c.args.names.now c.args.name.now) _ c.position.ensures.ran (cc) (λ x b q k. search (rules, tests))
