-- Scope and list are asked for in the definition's order; without one of them there are no entries.
use Rattle.std.proofs.Common.{sym}
use Rattle.whole.proofs.Outcomes.{entries-nowhere}
use Rattle.whole.proofs.lists.page_of.Goals as goal

pub returns-in_err-scope : goal.returns-in_err-scope
returns-in_err-scope c = rw c.from_residual.ensures (entries-nowhere _ _ _ (sym c.in_err-scope.ensures))
