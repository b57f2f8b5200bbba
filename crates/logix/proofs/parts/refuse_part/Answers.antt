-- The refusal that `fail` lays in the scratch is 4 bytes long, and `place` copies these.
use Rattle.logix.proofs.Placing.{refused_long, refused_copied}
use native.Mathlib.Omega.{arith}
use mathlib.Core.Path.{sym}
use lib.Seq.{length-take-le}
use Rattle.logix.proofs.parts.refuse_part.Goals as goal

pub slice_bounds-scratch-end : goal.slice_bounds-scratch-end
slice_bounds-scratch-end c = let n = refused_long _ _ _ c.fail-n.ensures in omega (arith, n)

pub slice_bounds-place-end : goal.slice_bounds-place-end
slice_bounds-place-end c = let n = refused_long _ _ _ c.fail-n.ensures in sym (length-take-le _ _ (omega (arith, n)))

pub place-requires : goal.place-requires
place-requires c =
    let n = refused_long _ _ _ c.fail-n.ensures in
    (omega (arith, n, length-take-le c.fail-n.result c.fail-n.new.buf (omega (arith, n))), c.requires)

pub returns : goal.returns
returns c = refused_copied _ _ _ c.fail-n.ensures _ _ _ _ _ c.place.ensures
