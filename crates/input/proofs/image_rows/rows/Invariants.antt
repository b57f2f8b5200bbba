-- The rows below i are read.
use Rattle.input.proofs.Rows.{RowsRead}
use Rattle.input.proofs.image_rows.rows.Given as goal

abbrev pub invariant-loop-i : goal.invariant-loop-i
invariant-loop-i g l = RowsRead l.src l.at g.row.WIDTH l.n l.row-items l.i
