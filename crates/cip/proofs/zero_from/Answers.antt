-- The lent part is zeros at exit, as many as it has bytes, and the rest stays.
use borrow.Author.Rules.{rules}
use Rattle.laws.proofs.Put.{mid-zeroed}
use Rattle.cip.proofs.zero_from.Goals as goal

pub returns : goal.returns
returns c = mid-zeroed c.args.buf.now c.args.at c.args.end _ (c.fill.ensures.after (λ y e. search rules)) c.requires
