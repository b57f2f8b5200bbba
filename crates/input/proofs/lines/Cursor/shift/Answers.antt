-- What is moved is the part up to the end.
use mathlib.Core.Path.{refl, ◌∙◌}
use Rattle.input.proofs.Text.{moved_is_put}
use Rattle.input.proofs.lines.Cursor.shift.Goals as goal

pub returns : goal.returns
returns c = (
  refl,
  refl,
  refl,
  c.copy_within.ensures.after ∙ moved_is_put c.args.input.now c.args.self.at c.args.end c.requires.0 c.requires.1,
)
