-- `to_digit` finds the value that the definition does.
use Rattle.input.proofs.Digits.{hex_digit}
use Rattle.input.proofs.hex.digit.Goals as goal

pub returns : goal.returns
returns c = hex_digit c.args.c _ (rw c.from.ensures at c.to_digit.ensures.value)
