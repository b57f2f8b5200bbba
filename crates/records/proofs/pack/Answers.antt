-- Each turn packs the next row; behind the loop all n are packed, and the rows after them stand as they were.
use Rattle.std.proofs.Common.{refl}
use Rattle.records.proofs.Lists.{packed_next}
use Rattle.records.proofs.pack.Goals as goal

pub loop-i-preserved : goal.loop-i-preserved
loop-i-preserved c = packed_next _ _ _ _ _ c.min-n.ensures c.loop-i.auto.row-items c.loop-i.invariant _ _ c.loop-i-test.true c.into.ensures refl
