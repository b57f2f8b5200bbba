-- The OR masks below i have the next ones' bits too, and the rest is as it was.
use lib.Bits.{bit_or}
use lib.ListN.{get_or}
use Rattle.writes.proofs.Masking.{Changed}
use Rattle.writes.proofs.masks.add_ors.Given as goal

abbrev pub invariant-loop-i : goal.invariant-loop-i
invariant-loop-i l = Changed (λ i b. bit_or b (get_or l.next i 0)) l.initial.ors l.i l.ors
