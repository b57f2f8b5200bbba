-- The rows below i are packed.
use Rattle.std.proofs.Common.{◌≡◌}
use lib.ListN.{take}
use Rattle.records.specs.Records.{rows_of}
use Rattle.records.proofs.pack.Given as goal

abbrev pub invariant-loop-i : goal.invariant-loop-i
invariant-loop-i l = take l.i l.row-items ≡ rows_of (take l.i l.tags)
