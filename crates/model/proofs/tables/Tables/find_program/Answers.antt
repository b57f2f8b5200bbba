-- The chain answers as the library's law of it says, which is the definition's.
use Rattle.std.proofs.Common.{rules, tests}
use Rattle.laws.proofs.Chains.{position_slice}
use Rattle.definition.specs.Lookup.{program_in}
use Rattle.model.specs.Rows.{program_is}
use Rattle.model.proofs.tables.Tables.find_program.Goals as goal

pub returns : goal.returns
unfolding program_in
returns c = position_slice (program_is c.args.self.now.names.now c.args.name.now) _ c.position.ensures.ran (cc) (λ x b q k. search (rules, tests))
