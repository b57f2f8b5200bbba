-- The walk from here on is the whole walk, from a place that stands in its tag; each step leaves fewer segments.
use mathlib.Core.Path.{sym, ◌∙◌}
use Rattle.resolve.proofs.Stepping.{follow_end}
use Rattle.resolve.proofs.moves.follow.Goals as goal

pub returns : goal.returns
returns c = follow_end _ _ _ c.args.first _ _ c.loop-rest.invariant (sym c.is_empty.ensures ∙ c.loop-rest-test.false)
