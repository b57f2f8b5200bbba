-- The OR masks are joined where they stand; the AND masks behind them are still as they were, and are written to as tag memory is.
use Rattle.writes.proofs.Masking.{joined_at}
use Rattle.writes.proofs.masks.join_at.Goals as goal

pub returns : goal.returns
returns c = joined_at _ _ _ _ _ _ c.requires.0 c.requires.1 c.add_ors.ensures c.apply_masks.ensures
