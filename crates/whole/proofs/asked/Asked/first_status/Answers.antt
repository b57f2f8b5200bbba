-- The status is that of the reply, which lies at the start of the buffer.
use Rattle.std.proofs.Common.{arith, ◌∙◌}
use Rattle.whole.proofs.Statuses.{laid-status}
use Rattle.whole.proofs.asked.Asked.first_status.Goals as goal

pub returns-clause-status : goal.returns-clause-status
returns-clause-status g c = c.of.ensures ∙ laid-status _ _ _ _ (omega arith) c.send.ensures.answered.buffer_is
