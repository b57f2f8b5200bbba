-- The reply lies at the start of the reply buffer, so what stands there behind its first bytes is joined, and its status byte decides.
use Rattle.std.proofs.Common.{arith}
use Rattle.definition.proofs.Replies.{proper_answer}
use Rattle.model.specs.Tables.{tables_of, flags_of}
use Rattle.whole.proofs.Brought.{joined_last, joined_more}
use Rattle.whole.proofs.asked.Asked.join.Goals as goal

pub slice_bounds-copy_into-end : goal.slice_bounds-copy_into-end
slice_bounds-copy_into-end g c =
    let fits = (proper_answer (tables_of c.args.c.now.tables) (flags_of c.args.c.now.flags) c.args.memory.now
    (g.Self.Asked.request c.args.self.now c.args.from) c.args.limit).fits in
    omega (arith, fits, c.send-n.ensures.answered.length_is, c.requires.taken.has_room, c.send-n.auto)

pub returns-then-is_success-clause-joined : goal.returns-then-is_success-clause-joined
returns-then-is_success-clause-joined g c =
    joined_last (proper_answer _ _ _ _ _) c.send-n.ensures.answered c.requires.holds.0 _ _ _ _ c.copy_into.ensures c.is_success.ensures
    c.if-is_success.true

pub returns-clause-joined : goal.returns-clause-joined
returns-clause-joined g c =
    joined_more (proper_answer _ _ _ _ _) c.send-n.ensures.answered c.requires.holds.0 _ _ _ _ c.copy_into.ensures c.is_success.ensures
    c.if-is_success.false
