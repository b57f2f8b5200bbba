-- Three words of four bytes, each put right behind the one before it.
use Rattle.std.proofs.Common.{refl, arith}
use Rattle.laws.proofs.Put.{put_then}
use Rattle.listing.proofs.values.put_lengths.Goals as goal

pub returns : goal.returns
returns c =
    put_then _ _ _ _ _ _ _ (put_then _ _ _ _ _ _ _ c.put_u32.ensures c.put_u32-2.ensures refl (omega arith))
    c.put_u32-3.ensures refl (omega arith)
