-- The chain answers as the library's law of it says, by any test that says what the closure answers.
use Rattle.std.proofs.Common.{rules, tests}
use Rattle.laws.proofs.Chains.{all_slice}
use Rattle.tables.proofs.passes_all.Goals as goal

pub returns : goal.returns
returns g c p is = all_slice _ _ c.all.ensures.ran (cc) (λ x b q k. search (rules, tests, is))
