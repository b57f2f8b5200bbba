-- The constant table holds the entry of each of the 256 bytes, by computation.
use Rattle.std.specs.Prelude.{None}
use Rattle.definition.specs.Segment.{kind_of}
use Rattle.laws.proofs.Table.{table3}
use Prim.Native.Nat.{◌<◌, ◌/◌, ◌%◌}
use native.Mathlib.Omega.{arith}
use Rattle.path.specs.First.{first_of}
use Rattle.path.proofs.table.first_of.Goals as goal

pub returns : goal.returns
unfolding first_of kind_of
returns c =
    let b = c.args.b in
    let byte : b < 256 = omega arith in
    table3 None first_of 8 8 4 (b / 32) (b / 4 % 8) (b % 4) b (omega arith) (omega arith) (omega arith) (omega arith)
