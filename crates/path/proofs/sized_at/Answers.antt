-- The size stands in the path or not, and behind it the bytes with their pad, as in the definition.
use native.Mathlib.Nat.{add-sub_cancel_left}
use mathlib.Core.Path.{◌≡◌, ◌∙◌}
use lib.ListN.{length, get_or}
use Prim.Native.Nat.{◌+◌, ◌%◌}
use borrow.Author.Tests.{le-leb, lt-leb}
use Rattle.definition.specs.Segment.{sized_at}
use Rattle.path.proofs.sized_at.Goals as goal

pub returns-in_err-get : goal.returns-in_err-get
unfolding sized_at
returns-in_err-get c make = rw (c.from_residual.ensures, ← c.in_err-get.ensures.lookup.0)

pub returns-then-path-next : goal.returns-then-path-next
unfolding sized_at
returns-then-path-next c make =
    let size = c.from-size.result in
    let found = c.in_ok-get.ensures.lookup in
    let e : size ≡ get_or c.args.path.now c.args.at 0 = c.from-size.ensures ∙ found.3.1 0 in
    rw (← found.0, ← e, lt-leb (c.args.at + 1 + (size + size % 2)) (length c.args.path.now) c.if-path-next.true)

pub returns : goal.returns
unfolding sized_at
returns c make =
    let size = c.from-size.result in
    let found = c.in_ok-get.ensures.lookup in
    let e : size ≡ get_or c.args.path.now c.args.at 0 = c.from-size.ensures ∙ found.3.1 0 in
    rw (← found.0, ← e, le-leb (c.args.at + 1 + (size + size % 2)) (length c.args.path.now) c.if-path-next.false, add-sub_cancel_left)
