-- Two requests that are as long and have the same bytes before the masks are joined where the masks stand, which are two halves of the rest.
use mathlib.Core.Path.{refl}
use native.Mathlib.Omega.{arith}
use Rattle.input.proofs.Joining.{not-joined, no_row, no_length, no_front, halves, row-joined}
use Rattle.input.proofs.clicks.join.Goals as goal

pub returns-in_default : goal.returns-in_default
returns-in_default c = not-joined c.args.row.now c.args.next.now (no_row _ _ c.in_default.ensures.found)

pub returns-then-next-row : goal.returns-then-next-row
returns-then-next-row c = not-joined c.args.row.now c.args.next.now (no_length _ _ _ c.in-Some.ensures.found c.if-next-row.true)

pub returns-then-ne : goal.returns-then-ne
returns-then-ne c =
    not-joined c.args.row.now c.args.next.now (no_front _ _ _ c.in-Some.ensures.found c.if-next-row.false _ c.ne.ensures c.if-ne.true)

pub join_at-requires : goal.join_at-requires
join_at-requires c =
    let both = halves c.args.row.now c.args.next.now _ c.in-Some.ensures.found c.if-next-row.false _ refl in
    (omega arith, omega arith)

pub returns : goal.returns
returns c =
    row-joined c.args.row.now c.args.next.now _ c.in-Some.ensures.found c.if-next-row.false _ refl _ _ c.ne.ensures c.if-ne.false
    c.join_at.ensures
