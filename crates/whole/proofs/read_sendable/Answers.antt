-- What was sized decides, as in the definition; the first reply or the last one stays in the buffer.
use Rattle.std.proofs.Common.{rules, sym, ◌∙◌}
use Rattle.whole.proofs.Deciding.{sized_header, sized_joinable, whole_turned, whole_narrow, whole_short, whole_joined}
use Rattle.whole.proofs.read_sendable.Goals as goal

pub returns-in_default-clause-whole : goal.returns-in_default-clause-whole
returns-in_default-clause-whole c =
    whole_turned _ _ _ _ _ _ _ _ (sym c.in_default.is ∙ c.selected_size.ensures) c.first_status-status.ensures.status
    c.first_status-status.ensures.buffer

pub overflow_add-size : goal.overflow_add-size
overflow_add-size c =
    let h = sized_header _ _ _ c.requires c.selected_size.ensures c.in-Some.is c.args.read.now.small in
    search rules

pub returns-then-limit-size-clause-whole : goal.returns-then-limit-size-clause-whole
returns-then-limit-size-clause-whole c = whole_narrow _ _ _ _ _ _ c.selected_size.ensures _ c.in-Some.is c.if-limit-size.true

pub returns-then-out-size-clause-whole : goal.returns-then-out-size-clause-whole
returns-then-out-size-clause-whole c =
    whole_short _ _ _ _ _ _ c.selected_size.ensures _ c.in-Some.is c.if-limit-size.false c.if-out-size.true

pub join_all-requires-clause-joins : goal.join_all-requires-clause-joins
join_all-requires-clause-joins c =
    sized_joinable _ _ _ c.requires c.selected_size.ensures c.in-Some.is _ c.if-limit-size.false c.if-out-size.false

pub returns-clause-whole : goal.returns-clause-whole
returns-clause-whole c =
    whole_joined _ _ _ _ _ _ c.selected_size.ensures _ c.in-Some.is _ _ _ c.if-limit-size.false c.if-out-size.false
    c.join_all.ensures.joined c.join_all.ensures.buffer
