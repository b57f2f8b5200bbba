-- The three lengths as numbers are the row's list of lengths.
use Rattle.rows.proofs.Laws.{lengths_by}
use Rattle.rows.proofs.row.lengths_first.Goals as goal

pub returns : goal.returns
returns c = lengths_by c.args.row.now _ (rw c.lengths_of.ensures at c.zeros_last.ensures)
