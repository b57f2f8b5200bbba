-- The first i bytes are those that are copied, and there are as many as before.
use Rattle.std.proofs.Common.{◌≡◌, length}
use lib.ListN.{take}
use Rattle.cip.proofs.copy.Given as goal

abbrev pub invariant-loop-i : goal.invariant-loop-i
invariant-loop-i l = (take l.i l.to ≡ take l.i l.from) × (length l.to ≡ length l.initial.to)
