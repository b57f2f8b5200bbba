-- Symbols whose numbers of scope and name keep apart differ in one of them.
use Rattle.std.proofs.Common.{rules}
use Rattle.spread.proofs.Keyed.{names_far}
use Rattle.spread.proofs.sure.names_differ.Goals as goal

pub returns : goal.returns
returns c = λ e. names_far _ _ _ c.args.t.now.tag_names.now c.args.t.now.names.now (λ k s h p. search rules) (c.spread_by.ensures e)
