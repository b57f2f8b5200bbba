-- Setting one byte inside the buffer is putting a list of one byte there.
use Rattle.laws.proofs.Put.{set-put}
use native.Mathlib.Omega.{arith}
use Rattle.cip.proofs.put_u8.Goals as goal

pub returns : goal.returns
returns c = set-put _ _ _ (omega arith)
