-- The target lies in memory, so its first byte and its elements are there; a bit's byte or these are what is selected.
use Rattle.reads.proofs.Reading.{bit_sent, part_sent}
use Rattle.reads.proofs.send_selected.Goals as goal

pub returns-then-g-ne-NO_BIT : goal.returns-then-g-ne-NO_BIT
returns-then-g-ne-NO_BIT c = bit_sent _ _ _ _ _ _ _ _ _ _ _ c.if-g-ne-NO_BIT.true c.bit_of.ensures c.send_from.ensures

pub returns : goal.returns
returns c =
    part_sent _ _ _ _ _ _ _ _ _ _ _ c.if-g-ne-NO_BIT.false c.requires.0.size_is
    (rw c.chunk-value.ensures at c.send_from-2.ensures)
