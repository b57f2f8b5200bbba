-- The bytes below i are masked, and the rest is as it was.
use lib.Bits.{bit_or, bit_and}
use lib.ListN.{get_or}
use Rattle.writes.proofs.Masking.{Changed}
use Rattle.writes.proofs.masks.apply_masks.Given as goal

abbrev pub invariant-loop-i : goal.invariant-loop-i
invariant-loop-i l = Changed (λ i b. bit_and (bit_or b (get_or l.ors i 0)) (get_or l.ands i 0)) l.initial.bytes l.i l.bytes
