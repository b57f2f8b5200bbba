-- The offsets from an index on, held against the last one that was passed, are in order just where all of them are.
use mathlib.Core.Path.{refl}
use Rattle.logix.proofs.Offsets.{order_on, order_off, order_end}
use Rattle.logix.proofs.body.in_order.Goals as goal

pub returns-then-next-at : goal.returns-then-next-at
returns-then-next-at c =
    order_off _ _ _ _ _ c.loop-pair.invariant _ _ c.loop-pair-test.true c.from_le_bytes.ensures c.from-next.ensures c.if-next-at.true

pub loop-pair-preserved : goal.loop-pair-preserved
loop-pair-preserved c =
    order_on _ _ _ _ _ c.loop-pair.invariant _ _ c.loop-pair-test.true c.from_le_bytes.ensures c.from-next.ensures _ c.if-next-at.false refl

pub returns : goal.returns
returns c = order_end _ _ _ _ _ c.loop-pair.invariant c.loop-pair-test.false
