-- `logix::dispatch`, `multi_service` and `part` meet their contracts: one proof for the cycle of calls. Assumes nothing.
use Rattle.std.proofs.Common.{rules, refl, arith}
use Rattle.std.proofs.lemmas.Bool.{not_from_false, not_from_true}
use Rattle.logix.proofs.Going.{going_start, going_more, going_end}
use Rattle.logix.proofs.Offsets.{has_parts}
use Rattle.logix.proofs.Placing.{tail_byte}
use Rattle.logix.proofs.Dispatching.{body-shorter, answer-malformed, answer-envelope, answer-plain}
use Rattle.logix.proofs.Dispatching.{part_in_place, in_scratch, part_by_scratch, part_declined}
use Rattle.logix.proofs.Dispatching.{envelope_off, envelope-short, envelope_runs}
use Rattle.logix.proofs.+dispatch_multi_service_part.Goals as goal

pub dispatch-returns-in_default : goal.dispatch-returns-in_default
dispatch-returns-in_default t c = answer-malformed _ _ _ _ _ _ _ _ _ _ c.in_default.ensures c.first_of.ensures c.fail.ensures refl

pub dispatch-multi_service-requires : goal.dispatch-multi_service-requires
dispatch-multi_service-requires t c =
    (omega (arith, body-shorter _ _ c.in-Some.ensures), (c.requires.judged, (c.requires.limit, c.requires.room)))

pub dispatch-returns-then-is_envelope : goal.dispatch-returns-then-is_envelope
dispatch-returns-then-is_envelope t c =
    answer-envelope _ _ _ _ _ _ _ _ _ _ c.in-Some.ensures _ c.is_envelope.ensures c.if-is_envelope.true c.multi_service.ensures

pub dispatch-returns : goal.dispatch-returns
dispatch-returns t c =
    answer-plain _ _ _ _ _ _ _ _ _ _ c.in-Some.ensures _ c.is_envelope.ensures c.if-is_envelope.false c.plain.ensures

pub multi_service-returns-then-not-takes_envelopes : goal.multi_service-returns-then-not-takes_envelopes
multi_service-returns-then-not-takes_envelopes t c =
    envelope_off _ _ _ _ _ _ _ _ _ _ c.takes_envelopes.ensures (not_from_false _ c.if-not-takes_envelopes.true) c.fail.ensures refl

pub multi_service-returns-in_default : goal.multi_service-returns-in_default
multi_service-returns-in_default t c =
    envelope-short _ _ _ _ _ _ _ _ _ _ c.takes_envelopes.ensures (not_from_true _ c.if-not-takes_envelopes.false) c.in_default.ensures
    c.fail-in_default.ensures refl

pub multi_service-loop-i-init : goal.multi_service-loop-i-init
multi_service-loop-i-init t c =
    going_start _ _ _ _ _ _ (search rules)

pub multi_service-loop-i-preserved : goal.multi_service-loop-i-preserved
multi_service-loop-i-preserved t c =
    going_more _ _ _ _ _ _ _ _ _ _ _ c.loop-i.invariant _ _ (search rules) c.part.ensures c.budget_of-budget.ensures _ _ _ _
    c.put_offset.ensures c.part-r.ensures c.requires.room c.put_offset.auto.buf c.part-r.auto.buf c.part-r.auto.memory

pub multi_service-returns : goal.multi_service-returns
multi_service-returns t c =
    rw (← c.in-Some.ensures) (envelope_runs _ _ _ _ _ _ _ _ _ _ _ c.takes_envelopes.ensures (not_from_true _ c.if-not-takes_envelopes.false)
    (has_parts _ _ refl c.in-Some.parts.there) c.in-Some.parts.counted (going_end _ _ _ _ _ _ _ _ _ _ _ c.loop-i.invariant _ _
    (search rules) c.close.ensures c.requires.room))

pub part-returns-then-first_of-eq-ENVELOPE : goal.part-returns-then-first_of-eq-ENVELOPE
part-returns-then-first_of-eq-ENVELOPE t c =
    part_declined _ _ _ _ _ _ _ _ _ _ c.first_of.ensures c.if-first_of-eq-ENVELOPE.true c.requires.room c.refuse_part.ensures

pub part-returns-then-budget-ge8 : goal.part-returns-then-budget-ge8
part-returns-then-budget-ge8 t c =
    rw (c.is_success.ensures, tail_byte) (part_in_place _ _ _ _ _ _ c.first_of.ensures (search rules) _ _ _ _ _ _ c.if-budget-ge8.true
    c.requires.budget c.requires.room c.dispatch-len.ensures)

pub part-slice_bounds-scratch-end : goal.part-slice_bounds-scratch-end
part-slice_bounds-scratch-end t c =
    (in_scratch _ _ _ _ _ _ c.first_of.ensures (search rules) _ _ _ _ c.if-budget-ge8.false refl c.dispatch-n.ensures c.dispatch-n.auto.buf).0

pub part-slice_bounds-place-end : goal.part-slice_bounds-place-end
part-slice_bounds-place-end t c =
    (in_scratch _ _ _ _ _ _ c.first_of.ensures (search rules) _ _ _ _ c.if-budget-ge8.false refl c.dispatch-n.ensures c.dispatch-n.auto.buf).1

pub part-place-requires : goal.part-place-requires
part-place-requires t c =
    let s = in_scratch _ _ _ _ _ _ c.first_of.ensures (search rules) _ _ _ _ c.if-budget-ge8.false refl c.dispatch-n.ensures c.dispatch-n.auto.buf in
    (s.2, c.requires.room)

pub part-returns : goal.part-returns
part-returns t c =
    part_by_scratch _ _ _ _ _ _ c.first_of.ensures (search rules) _ _ _ _ c.if-budget-ge8.false refl
    c.dispatch-n.ensures _ _ _ _ _ c.requires.room c.place.ensures
