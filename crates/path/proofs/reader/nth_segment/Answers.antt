-- What each call says of the reader's own path is said of the path: below the count the walk reaches the i-th segment, and behind the last one, and in a
-- path that does not decode, the definition has none.
use mathlib.Core.Path.{sym, ap, subst, ◌∙◌}
use mathlib.Core.List.{List}
use Prim.Native.Nat.{ℕ}
use native.Mathlib.Omega.{arith}
use Rattle.std.proofs.Common.{Bor}
use Rattle.path.proofs.Reaching.{Reaching, nth-bad, nth-behind, reaching_start, reaching_next, reaching-cut, reaching_end}
use Rattle.path.proofs.reader.nth_segment.Goals as goal

pub returns-in_err-n : goal.returns-in_err-n
returns-in_err-n c = rw c.from_residual.ensures (record { is = nth-bad _ _ c.in_err-n.ensures; name_inside = tt })

pub returns-then-n-i : goal.returns-then-n-i
returns-then-n-i c = record { is = nth-behind _ _ _ c.in_ok-n.ensures (omega arith); name_inside = tt }

pub loop-init : goal.loop-init
loop-init c = (
  ap (λ (y : Bor (List ℕ)). y.now) c.new-r.ensures.path,
  subst (λ (n : ℕ). Reaching c.args.path.now n 0) (sym c.new-r.ensures.at) (reaching_start _ _ c.in_ok-n.ensures),
)

pub returns-in_err-segment : goal.returns-in_err-segment
returns-in_err-segment c =
    let same = c.loop.invariant.0 in
    rw c.from_residual-in_err-segment.ensures
    (record { is = reaching-cut _ _ _ c.loop.invariant.1 _ (omega arith) (rw same at c.in_err-segment.ensures.stands.0); name_inside = tt })

pub loop-preserved : goal.loop-preserved
loop-preserved c =
    let same = c.loop.invariant.0 in (
      ap (λ (y : Bor (List ℕ)). y.now) c.in_ok-segment.ensures.path_is ∙ same,
      reaching_next _ _ _ c.loop.invariant.1 _ _ (rw same at c.in_ok-segment.ensures.stands),
    )

pub returns : goal.returns
returns c =
    let end = reaching_end _ _ _ c.loop.invariant.1 c.args.i (omega arith) in
    record { is = c.segment_at.ensures.is ∙ end.0; name_inside = rw end.1 at c.segment_at.ensures.name_inside }
