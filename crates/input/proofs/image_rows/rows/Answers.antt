-- Each turn adds the next row behind those that are there.
use native.Mathlib.Omega.{arith}
use Rattle.input.proofs.Rows.{rows_start, one_row, room_for}
use Rattle.input.proofs.image_rows.rows.Goals as goal

pub loop-i-init : goal.loop-i-init
loop-i-init g c = rows_start _ _ _ _ _ (room_for _ _ _ c.requires.0)

pub loop-i-preserved : goal.loop-i-preserved
loop-i-preserved g c = one_row _ _ _ _ _ _ c.loop-i.invariant _ (omega (arith, c.loop-i.invariant.long)) c.row_at.ensures
