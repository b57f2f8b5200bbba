-- The definition's refusals in its order; what is left is askable.
use Rattle.std.proofs.Common.{refl, sym}
use Rattle.std.proofs.lemmas.Result.{err_from_is_err_and}
use Rattle.logix.proofs.Entered.{entered-all}
use Rattle.whole.specs.Lists.{whole_list}
use Rattle.whole.proofs.lists.list_whole.Goals as goal

pub returns-then-not-is_askable-clause-whole : goal.returns-then-not-is_askable-clause-whole
unfolding whole_list
returns-then-not-is_askable-clause-whole c = rw (sym c.if-not-is_askable.ensures) refl

pub returns-in_err-enter-clause-whole : goal.returns-in_err-enter-clause-whole
unfolding whole_list
returns-in_err-enter-clause-whole c =
    let same = err_from_is_err_and c.from_residual.result c.from_residual.ensures.1 in
    rw (same.1, same.2, sym c.if-not-is_askable.ensures, ← c.in_err-enter.ensures) refl

pub list_askable-requires : goal.list_askable-requires
list_askable-requires c =
    let e = entered-all _ _ _ _ c.in_ok-enter.ensures in
    record { sendable = sym c.if-not-is_askable.ensures; limit_fits = e.0; has_room = e.1; tables = e.2 }

pub returns-clause-whole : goal.returns-clause-whole
unfolding whole_list
returns-clause-whole c = rw (sym c.if-not-is_askable.ensures, ← c.in_ok-enter.ensures) c.list_askable.ensures.whole
