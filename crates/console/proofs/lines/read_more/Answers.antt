-- The read changes only what stands behind `at`, and `ended` then writes at most the newline.
use Rattle.std.proofs.Common.{rules}
use Rattle.input.proofs.Text.{after_read}
use Rattle.console.proofs.lines.read_more.Goals as goal

pub returns-clause-came : goal.returns-clause-came
returns-clause-came g c =
    after_read c.args.input.now c.read.new.buf _ c.args.at c.in_ok-n.n _ (search rules) (search rules) (search rules) (search rules)
    c.ended.ensures.0 c.ended.ensures.1
