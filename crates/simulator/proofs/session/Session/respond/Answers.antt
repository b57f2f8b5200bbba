-- A reply is no longer than max(8, limit), so it lies in the buffer.
use Rattle.std.proofs.Common.{arith}
use Rattle.simulator.proofs.Fits.{reply_fits}
use Rattle.simulator.proofs.session.Session.respond.Goals as goal

pub shared_ref_as_front-show : goal.shared_ref_as_front-show
shared_ref_as_front-show g c =
    let n = reply_fits _ _ _ _ c.answer-n.ensures c.requires.limit (omega (arith, c.told-buf)) in
    omega (arith, n, c.told-buf)
