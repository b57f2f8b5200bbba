-- The tests are the definition's: what follows the name first, then its prefix.
use mathlib.Core.Path.{sym}
use Rattle.resolve.proofs.Starting.{prefix-empty, prefix-other, prefix_last, prefix-plain, prefix_program}
use Rattle.resolve.proofs.start.program_first.Goals as goal
use Rattle.resolve.proofs.start.program_first.Goals.{in_default-via-in-Symbol+else-not-is_empty, in_default-via-in_default}

pub returns-in_err-first : goal.returns-in_err-first
returns-in_err-first c = rw c.from_residual.ensures (prefix-empty _ c.in_err-first.ensures)

pub returns-in_err-after_program-in-Symbol : goal.returns-in_err-after_program-in-Symbol
returns-in_err-after_program-in-Symbol c =
    rw c.from_residual-in_err-after_program-in-Symbol.ensures
    (prefix-plain _ _ _ (rw c.in-Symbol.is at c.in_ok-first.ensures) c.in_err-after_program-in-Symbol.ensures)

pub returns-in_ok-after_program-in-Symbol : goal.returns-in_ok-after_program-in-Symbol
returns-in_ok-after_program-in-Symbol c =
    let name = c.in_ok-after_program-in-Symbol.ensures in
    rw name.1 (prefix_program _ _ _ (rw c.in-Symbol.is at c.in_ok-first.ensures) name.0 (sym c.if-not-is_empty.ensures))

pub returns-in_default : goal.returns-in_default
returns-in_default c =
    elim c.in_default.branch [
      | in_default-via-in-Symbol+else-not-is_empty w ↦ prefix_last _ _ _ (rw w.in-Symbol.is at c.in_ok-first.ensures) (sym w.if-not-is_empty.ensures)
      | in_default-via-in_default w ↦ prefix-other _ _ _ c.in_ok-first.ensures w.in_default.not-Symbol
    ]
