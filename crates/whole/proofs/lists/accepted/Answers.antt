-- A list with all its numbers is accepted just where each of them is known, as in the definition.
use Rattle.std.proofs.Common.{sym}
use Rattle.whole.proofs.Outcomes.{entries-cut, entries-unknown}
use Rattle.whole.proofs.lists.accepted.Goals as goal

pub returns-in_err-numbers : goal.returns-in_err-numbers
returns-in_err-numbers c = rw c.from_residual.ensures (λ t program. entries-cut t program _ (sym c.in_err-numbers.ensures))

pub returns-then-not-all_listed : goal.returns-then-not-all_listed
returns-then-not-all_listed c =
    λ t program. entries-unknown t program _ _ (sym c.in_ok-numbers.ensures) (sym c.if-not-all_listed.ensures)
