-- From each bound on the entries that still fit end before the same ID and leave the same due; a step writes below the size.
use mathlib.Core.Logic.{inl, inr}
use Rattle.std.proofs.Common.{rules}
use Rattle.listing.proofs.Filled.{further_more}
use Rattle.whole.proofs.Walking.{bound_more, bound_full, bound_done, walk_kept}
use Rattle.whole.proofs.walks.next_bound.Goals as goal

pub loop-next-preserved : goal.loop-next-preserved
loop-next-preserved c =
    let l = c.loop-next.invariant in
    let f = further_more _ _ _ c.in-More.is c.step.ensures.further in (
      search rules,
      search rules,
      walk_kept _ c.requires.0 l.2 c.requires.2 c.step.ensures.stepped,
      λ o m v. bound_more _ _ _ _ _ _ _ _ _ (l.3 o m v) _ _ (c.step.ensures.stepped o m v) c.in-More.is,
    )

pub returns-in-Full-clause-passed : goal.returns-in-Full-clause-passed
returns-in-Full-clause-passed c o m v =
    let l = c.loop-next.invariant in
    elim c.in-Full.is [
      | inl e ↦ bound_full _ _ _ _ _ _ _ _ _ (l.3 o m v) _ _ (c.step.ensures.stepped o m v) e l.1
      | inr e ↦ bound_done _ _ _ _ _ _ _ _ _ (l.3 o m v) _ _ (c.step.ensures.stepped o m v) e
    ]
