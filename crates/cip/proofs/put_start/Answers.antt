-- Three writes of one byte, next to each other, are one write of the three bytes.
use mathlib.Core.Path.{refl}
use Rattle.laws.proofs.Put.{put_then}
use native.Mathlib.Omega.{arith}
use Rattle.cip.proofs.put_start.Goals as goal

pub returns : goal.returns
returns c =
    put_then _ _ _ _ _ _ _ (put_then _ _ _ _ _ _ _ c.put_u8.ensures c.put_u8-2.ensures refl (omega arith))
    c.put_u8-3.ensures refl (omega arith)
