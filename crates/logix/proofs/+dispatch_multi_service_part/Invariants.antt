-- The measure of the cycle is twice the length of what is answered, plus 1 in `part`: an envelope's body is shorter than its
-- message, and a part is shorter than the body. The loop's invariant is the record `Going` of `proofs/Going.antt`.
use Rattle.std.proofs.Common.{length, ◌+◌, ◌*◌}
use Rattle.definition.specs.Answer.{part_dispatch}
use Rattle.model.specs.Tables.{tables_of, flags_of}
use Rattle.logix.proofs.Going.{Going}
use Rattle.logix.proofs.+dispatch_multi_service_part.Given as goal

abbrev pub decreases-dispatch : goal.decreases-dispatch
decreases-dispatch l = 2 * length l.message.now

abbrev pub decreases-multi_service : goal.decreases-multi_service
decreases-multi_service l = 2 * length l.body.now

abbrev pub decreases-part : goal.decreases-part
decreases-part l = 2 * length l.p.now + 1

abbrev pub invariant-multi_service-loop-i : goal.invariant-multi_service-loop-i
invariant-multi_service-loop-i l =
    Going (part_dispatch (tables_of l.c.tables) (flags_of l.c.flags))
    l.fn.memory l.parts.body.now l.limit l.fn.buf l.count l.memory l.buf l.used l.fine l.i
