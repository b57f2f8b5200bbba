-- Tags whose spans of bytes keep apart share none.
use Rattle.std.proofs.Common.{rules}
use Rattle.spread.proofs.Keyed.{bytes_far}
use Rattle.spread.proofs.sure.bytes_apart.Goals as goal

pub returns : goal.returns
returns c = λ e. bytes_far _ _ _ (λ k s h p. search rules) (c.spread_by.ensures e)
