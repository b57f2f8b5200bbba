-- The chain answers as the library's law of it says, which is the definition's of the numbers.
use Rattle.std.proofs.Common.{rules, tests, ◌∙◌}
use Rattle.laws.proofs.Chains.{all_slice}
use Rattle.definition.specs.Symbols.{is_listed}
use Rattle.listing.specs.Numbers.{word}
use Rattle.listing.proofs.Lists.{every_map}
use Rattle.listing.proofs.numbers.all_listed.Goals as goal

pub returns : goal.returns
returns c =
    all_slice (λ pair. is_listed (word pair)) _ c.all.ensures.ran (cc) (λ x b q k. search (rules, tests)) ∙ every_map is_listed word c.args.pairs.now
