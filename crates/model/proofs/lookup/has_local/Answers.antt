-- The chain answers as the library's law of it says, which is the definition's.
use Rattle.std.proofs.Common.{rules, tests}
use Rattle.laws.proofs.Chains.{any_slice}
use Rattle.definition.specs.Lookup.{local_in}
use Rattle.model.specs.Rows.{is_local_row}
use Rattle.model.proofs.lookup.has_local.Goals as goal

pub returns : goal.returns
unfolding local_in
returns c = any_slice (is_local_row) _ c.any.ensures.ran (cc) (λ x b q k. search (rules, tests))
