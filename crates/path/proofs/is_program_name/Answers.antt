-- The tests in the order of the definition's: the length, then the first eight bytes against the prefix.
use borrow.Author.Rules.{rules}
use Rattle.laws.proofs.Chain.{chain}
use Rattle.definition.specs.Names.{is_program_name}
use Rattle.path.proofs.is_program_name.Goals as goal

pub returns-then-name-gt8 : goal.returns-then-name-gt8
unfolding is_program_name
returns-then-name-gt8 c = search chain

pub returns-else-name-gt8 : goal.returns-else-name-gt8
unfolding is_program_name
returns-else-name-gt8 c = search (chain, rules)
