-- A class with an instance behind it is the object, and other starts have none in the definition.
use mathlib.Core.Path.{sym}
use Rattle.path.proofs.Segments.{found_at}
use Rattle.path.proofs.Objects.{object-cut, object-other, object-alone, object-second}
use Rattle.path.proofs.object_at.Goals as goal

pub returns-in_err-step : goal.returns-in_err-step
returns-in_err-step c = rw c.from_residual.ensures (object-cut _ _ (sym c.in_err-step.ensures.is))

pub returns-in_default : goal.returns-in_default
returns-in_default c = object-other _ _ _ _ c.in_ok-step.ensures.is c.in_default.not-Class

pub returns-in_err-instance : goal.returns-in_err-instance
returns-in_err-instance c =
    let first = found_at _ _ _ _ _ c.in_ok-step.ensures.is c.in-Class.is in
    rw c.from_residual-in_err-instance.ensures (object-alone _ _ _ _ first (sym c.in_err-instance.ensures))

pub returns : goal.returns
returns c =
    let first = found_at _ _ _ _ _ c.in_ok-step.ensures.is c.in-Class.is in
    object-second _ _ _ _ first c.requires _ _ (sym c.in_ok-instance.ensures)
