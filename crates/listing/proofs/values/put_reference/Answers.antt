-- The fixed bytes of the path and, put right behind them, the instance are the reference.
use Rattle.std.proofs.Common.{refl, arith}
use Rattle.laws.proofs.Put.{put_then}
use Rattle.listing.proofs.values.put_reference.Goals as goal

pub returns : goal.returns
returns c = put_then _ _ _ _ _ _ _ c.copy_into.ensures c.put_u16.ensures refl (omega arith)
