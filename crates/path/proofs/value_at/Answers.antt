-- By the format and whether its bytes stand in the path, as in the definition; the reserved format has no value.
use native.Mathlib.Omega.{arith}
use lib.ListN.{length}
use Prim.Native.Nat.{◌+◌}
use borrow.Author.Tests.{le-leb, lt-leb}
use Rattle.definition.specs.Segment.{logical_at}
use Rattle.path.proofs.value_at.Goals as goal

pub returns-in-Bits8 : goal.returns-in-Bits8
unfolding logical_at
returns-in-Bits8 c make = rw (c.in-Bits8.is, c.from.ensures, le-leb (c.args.at + 1) (length c.args.path.now) (omega arith))

pub returns-in-PadAnd16 : goal.returns-in-PadAnd16
unfolding logical_at
returns-in-PadAnd16 c make =
    rw (c.in-PadAnd16.is, c.from-in-PadAnd16.ensures, c.u16_at.ensures, le-leb (c.args.at + 3) (length c.args.path.now) (omega arith))

pub returns-in-PadAnd32 : goal.returns-in-PadAnd32
unfolding logical_at
returns-in-PadAnd32 c make = rw (c.in-PadAnd32.is, c.u32_at.ensures, le-leb (c.args.at + 5) (length c.args.path.now) (omega arith))

pub returns-in_default : goal.returns-in_default
unfolding logical_at
returns-in_default c make = rw (c.in-Bits8.is, lt-leb (c.args.at + 1) (length c.args.path.now) (omega arith))

pub returns-in_default-2 : goal.returns-in_default-2
unfolding logical_at
returns-in_default-2 c make = rw (c.in-PadAnd16.is, lt-leb (c.args.at + 3) (length c.args.path.now) (omega arith))

pub returns-in_default-3 : goal.returns-in_default-3
unfolding logical_at
returns-in_default-3 c make = rw (c.in-PadAnd32.is, lt-leb (c.args.at + 5) (length c.args.path.now) (omega arith))

pub returns-in_default-4 : goal.returns-in_default-4
unfolding logical_at
returns-in_default-4 c make = rw c.in_default.is
