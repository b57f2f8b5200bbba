-- The chain's place is that of the first row that passes, and the record that stands there is its own.
use Rattle.std.proofs.Common.{rules, tests}
use Rattle.laws.proofs.Chains.{position_slice}
use Rattle.records.specs.Records.{row_of}
use Rattle.records.proofs.Looking.{located}
use Rattle.records.proofs.first_with.Goals as goal

pub returns : goal.returns
returns g c p is =
    let tags = c.args.tags.now in
    located tags p _ _ (rw c.iter.ensures.rest at c.position.ensures.bound) c.map.ensures.cases (λ i f q. search rules)
    (position_slice (λ tag. p (row_of tag)) tags c.position.ensures.ran (cc) (λ x b q k. search (rules, tests, is)))
