-- The entry's tests in its order.
use Rattle.std.proofs.Common.{length, arith, sym, refl, lt-ltb, le-ltb}
use Rattle.definition.specs.Reply.{room}
use Rattle.logix.specs.Entering.{entered}
use Rattle.logix.proofs.entry.enter.Goals as goal

pub returns-then-limit-gt-MOST : goal.returns-then-limit-gt-MOST
unfolding entered
returns-then-limit-gt-MOST c = rw (lt-ltb 65535 c.args.limit c.if-limit-gt-MOST.true) refl

pub returns-then-buf-room_of : goal.returns-then-buf-room_of
unfolding entered
returns-then-buf-room_of c =
    let short = lt-ltb (length c.args.buf.now) (room c.args.limit) (omega (arith, c.room_of.ensures, c.if-buf-room_of.true)) in
    rw (le-ltb 65535 c.args.limit c.if-limit-gt-MOST.false, short) refl

pub returns-then-not-valid : goal.returns-then-not-valid
unfolding entered
returns-then-not-valid c =
    let fits = le-ltb (length c.args.buf.now) (room c.args.limit) (omega (arith, c.room_of.ensures, c.if-buf-room_of.false)) in
    rw (le-ltb 65535 c.args.limit c.if-limit-gt-MOST.false, fits, sym c.if-not-valid.ensures) refl

pub returns : goal.returns
unfolding entered
returns c =
    let fits = le-ltb (length c.args.buf.now) (room c.args.limit) (omega (arith, c.room_of.ensures, c.if-buf-room_of.false)) in
    rw (le-ltb 65535 c.args.limit c.if-limit-gt-MOST.false, fits, sym c.if-not-valid.ensures) refl
