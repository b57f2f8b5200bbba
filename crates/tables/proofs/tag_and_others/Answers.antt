-- The chain answers as the library's law of it says, which is the definition's.
use Rattle.std.proofs.Common.{rules, tests}
use Rattle.laws.proofs.Chains.{all_slice}
use Rattle.tables.proofs.tag_and_others.Goals as goal

pub returns : goal.returns
returns c = all_slice _ _ c.all.ensures.ran (cc) (λ x b q k. search (rules, tests))
