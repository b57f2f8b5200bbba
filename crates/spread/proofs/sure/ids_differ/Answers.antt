-- Symbols whose numbers of scope and ID keep apart differ in one of them.
use Rattle.std.proofs.Common.{rules}
use Rattle.spread.proofs.Keyed.{ids_far}
use Rattle.spread.proofs.sure.ids_differ.Goals as goal

pub returns : goal.returns
returns c = λ e. ids_far _ _ _ (λ k s h p. search rules) (c.spread_by.ensures e)
