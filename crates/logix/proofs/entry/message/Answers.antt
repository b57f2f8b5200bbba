-- The definition's four refusals in its order, with nothing written; what passes them meets all that `answer` requires.
use Rattle.std.proofs.lemmas.Result.{err_from_is_err_and}
use Rattle.logix.proofs.Entered.{entered-all, enters_long, enters_refused, enters_well}
use Rattle.logix.proofs.entry.message.Goals as goal

pub returns-then-request-gt-MOST : goal.returns-then-request-gt-MOST
returns-then-request-gt-MOST c = enters_long _ _ _ _ _ _ c.if-request-gt-MOST.true

pub returns-in_err-enter : goal.returns-in_err-enter
returns-in_err-enter c =
    let same = err_from_is_err_and c.from_residual.result c.from_residual.ensures.1 in
    rw (same.1, same.2) (enters_refused _ _ _ _ _ _ c.if-request-gt-MOST.false _ c.in_err-enter.ensures)

pub answer-requires : goal.answer-requires
answer-requires c =
    let e = entered-all _ _ _ _ c.in_ok-enter.ensures in
    record { request = c.if-request-gt-MOST.false; limit = e.0; room = e.1; judged = e.2 }

pub returns : goal.returns
returns c = enters_well _ _ _ _ _ _ c.if-request-gt-MOST.false c.in_ok-enter.ensures _ _ _ c.answer.ensures
