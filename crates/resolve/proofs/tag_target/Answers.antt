-- What was resolved is the definition's, and the test that denies it is the definition's too.
use mathlib.Core.Path.{sym}
use Rattle.std.proofs.lemmas.Result.{err_from_is_err_and}
use Rattle.resolve.proofs.Answering.{target-turned, target-denied, target_found}
use Rattle.resolve.proofs.tag_target.Goals as goal

pub returns-in_err-g : goal.returns-in_err-g
returns-in_err-g c =
    let p = err_from_is_err_and c.from_residual.result c.from_residual.ensures.1 in
    rw (p.1, p.2) (target-turned _ _ _ _ _ c.in_err-g.ensures)

pub returns-then-is_denied : goal.returns-then-is_denied
returns-then-is_denied c = target-denied _ _ _ _ _ c.in_ok-g.ensures (sym c.if-is_denied.ensures)

pub returns : goal.returns
returns c = target_found _ _ _ _ _ c.in_ok-g.ensures (sym c.if-is_denied.ensures)
