-- Each element that is passed leaves fewer segments, and there are no more elements than bytes; where no element stands the run has ended.
use Prim.Native.Nat.{◌+◌, ◌≤◌}
use native.Mathlib.Omega.{arith}
use lib.ListN.{length}
use Rattle.std.proofs.Common.{rules}
use Rattle.resolve.proofs.Lefts.{left_few, run_fits, run_more, run_stop}
use Rattle.resolve.proofs.elements.Run.of.Goals as goal

pub overflow_add-run : goal.overflow_add-run
overflow_add-run c =
    let few : c.loop-value.run.count + 1 ≤ length c.args.from.path.now =
    omega (arith, run_fits _ _ c.loop-value.invariant _ _ c.in-Some.ensures, left_few c.args.from) in
    search rules

pub loop-value-preserved : goal.loop-value-preserved
loop-value-preserved c = run_more _ _ c.loop-value.invariant _ _ c.in-Some.ensures

pub returns : goal.returns
returns c = run_stop _ _ c.loop-value.invariant c.in_default.ensures
