-- The lent part is the source at exit, and the rest stays.
use Rattle.laws.proofs.Put.{mid-put}
use native.Mathlib.Omega.{arith}
use Rattle.cip.proofs.copy_into.Goals as goal

pub returns : goal.returns
returns c = mid-put c.args.buf.now c.args.at _ _ _ c.copy.ensures (omega arith)
