-- A request that can be sent fits the message, whose first n bytes are it; it changes nothing, and the answer is the dispatcher's.
use Rattle.std.proofs.Common.{arith, ◌∙◌}
use Rattle.whole.proofs.Statuses.{written_front}
use Rattle.whole.proofs.asked.Asked.send.Goals as goal

pub put-n-requires : goal.put-n-requires
put-n-requires g c = (c.requires.sendable, omega (arith, g.met.Self.Asked.short _ c.args.from c.requires.sendable))

pub returns : goal.returns
returns g c =
    let short = g.met.Self.Asked.short _ c.args.from c.requires.sendable in
    let front = written_front _ _ _ _ c.put-n.ensures.written (omega (arith, short, c.put-n.ensures.written.length_is)) in
    let answers = rw front at c.dispatch.ensures in
    record { answered = answers; memory = answers.memory_is ∙ c.put-n.ensures.changes_nothing _ _ _ _ }
