-- No name is scope 0; a program that is found is a row, so its position plus one is exact.
use Rattle.std.proofs.Common.{rules, sym}
use Rattle.listing.proofs.Found.{program_inside}
use Rattle.whole.proofs.Outcomes.{scope_controller, scope_unknown, scope_known}
use Rattle.whole.proofs.lists.scope_of.Goals as goal

pub returns-then-is_empty : goal.returns-then-is_empty
returns-then-is_empty c = scope_controller _ _ (search rules)

pub returns-in_err-k : goal.returns-in_err-k
returns-in_err-k c = rw c.from_residual.ensures (scope_unknown _ _ (search rules) (sym c.in_err-k.ensures))

pub program_scope-requires : goal.program_scope-requires
program_scope-requires c =
    let h = program_inside _ _ _ c.in_ok-k.ensures in
    let few = c.requires in
    search rules

pub returns : goal.returns
returns c = rw c.program_scope.ensures (scope_known _ _ _ (search rules) (sym c.in_ok-k.ensures))
