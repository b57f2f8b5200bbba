-- The definition's refusals in its order; what is left is sendable.
use Rattle.std.proofs.Common.{refl, sym}
use Rattle.std.proofs.lemmas.Result.{err_from_is_err_and}
use Rattle.logix.proofs.Entered.{entered-all}
use Rattle.whole.specs.Whole.{whole_read}
use Rattle.whole.proofs.read_whole.Goals as goal

pub returns-then-not-is_sendable-clause-whole : goal.returns-then-not-is_sendable-clause-whole
unfolding whole_read
returns-then-not-is_sendable-clause-whole c = rw (sym c.if-not-is_sendable.ensures) refl

pub returns-in_err-enter-clause-whole : goal.returns-in_err-enter-clause-whole
unfolding whole_read
returns-in_err-enter-clause-whole c =
    let same = err_from_is_err_and c.from_residual.result c.from_residual.ensures.1 in
    rw (same.1, same.2, sym c.if-not-is_sendable.ensures, ← c.in_err-enter.ensures) refl

pub read_sendable-requires : goal.read_sendable-requires
read_sendable-requires c =
    let e = entered-all _ _ _ _ c.in_ok-enter.ensures in
    record { sendable = sym c.if-not-is_sendable.ensures; limit_fits = e.0; has_room = e.1; tables = e.2 }

pub returns-clause-whole : goal.returns-clause-whole
unfolding whole_read
returns-clause-whole c = rw (sym c.if-not-is_sendable.ensures, ← c.in_ok-enter.ensures) c.read_sendable.ensures.whole
