-- The part before the first `#` is the line without its comment.
use mathlib.Core.Path.{◌∙◌}
use Prim.Native.Nat.{ℕ}
use lib.Dec.{eqb}
use Rattle.input.proofs.Text.{place_or_end}
use Rattle.input.proofs.Parsing.{without_comment, request-fits}
use Rattle.input.proofs.hex.parse.Goals as goal

pub returns-clause-reads : goal.returns-clause-reads
returns-clause-reads c =
    without_comment _ _ _ _ _ (c.unwrap_or-end.ensures ∙ place_or_end (λ (x : ℕ). eqb x 0x23) c.args.line.now _ c.find.ensures.found) c.asked.ensures

pub returns-clause-fits : goal.returns-clause-fits
returns-clause-fits c = request-fits _ _ _ _ c.asked.ensures
