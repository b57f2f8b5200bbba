-- Past the limit the refusal is laid; else header and count are put at the front, and zeros from the parts' end on.
use Rattle.logix.proofs.Placing.{closed}
use Rattle.logix.proofs.parts.close.Goals as goal

pub returns : goal.returns
returns c =
    closed _ _ _ _ _ _ _ _ _ _ _ _ c.if-limit-used.false c.requires.0 c.requires.1 c.outcome.ensures c.put_header.ensures
    c.low16.ensures c.put_u16.ensures c.finish.ensures.0 c.finish.ensures.1
