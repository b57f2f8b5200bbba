-- The definition's tests, as far as there are bytes for them: a request too short for its path and size is no masked write.
use mathlib.Core.Path.{◌∙◌}
use native.Mathlib.Omega.{arith}
use Rattle.input.proofs.Joining.{cut_short, other-service, whole_write}
use Rattle.input.proofs.clicks.masks_at.Goals as goal

pub returns-in_default-clause-found : goal.returns-in_default-clause-found
returns-in_default-clause-found c = cut_short c.args.s.now (omega (arith, c.in_default.len_below))

pub returns-then-service-ne-WRITE_MASKED-clause-found : goal.returns-then-service-ne-WRITE_MASKED-clause-found
returns-then-service-ne-WRITE_MASKED-clause-found c = other-service _ c.if-service-ne-WRITE_MASKED.true

pub returns-then-s-at-clause-found : goal.returns-then-s-at-clause-found
returns-then-s-at-clause-found c = cut_short c.args.s.now (omega (arith, c.if-s-at.true, c.from.ensures))

pub returns-clause-found : goal.returns-clause-found
returns-clause-found c =
    c.then_some.ensures
    ∙ whole_write c.args.s.now _ _ _ c.from.ensures c.u16_at.ensures c.from-size.ensures c.if-service-ne-WRITE_MASKED.false
