-- `all` asks each character whether it is a decimal digit.
use Rattle.std.proofs.Common.{rules, tests}
use Rattle.laws.proofs.Chains.{all_slice}
use Rattle.input.specs.Lines.{is_decimal}
use Rattle.input.proofs.Digits.{decimal_digit, number_if, no_digits}
use Rattle.input.proofs.hex.is_number.Goals as goal

pub returns-then-not-is_empty : goal.returns-then-not-is_empty
returns-then-not-is_empty c =
    number_if c.args.word.now _ c.if-not-is_empty.ensures
    (all_slice is_decimal c.args.word.now c.all.ensures.ran (cc) (λ x b q k. search (rules, tests, decimal_digit)))

pub returns-else-not-is_empty : goal.returns-else-not-is_empty
returns-else-not-is_empty c = no_digits _ _ c.if-not-is_empty.false c.is_empty.ensures
