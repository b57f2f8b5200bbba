-- Blanks say nothing, and the first character behind them decides as in the definition.
use Rattle.input.proofs.Parsing.{asks_nothing, asks_with_limit, asks_plainly}
use Rattle.input.proofs.hex.asked.Goals as goal

pub returns-in-empty : goal.returns-in-empty
returns-in-empty c = asks_nothing _ _ _ c.after_blanks.ensures c.in-empty.len_below

pub returns-in-len1-up : goal.returns-in-len1-up
returns-in-len1-up c = asks_with_limit _ _ _ c.after_blanks.ensures _ _ c.in-len1-up.len_at_least c.if-first-eq64.true c.limited.ensures

pub returns-in_default : goal.returns-in_default
returns-in_default c = asks_plainly _ _ _ c.after_blanks.ensures _ _ c.in-len1-up.len_at_least c.if-first-eq64.false c.read_bytes.ensures
