-- What is passed and what is left make up all entries; each is written between the place of the header and the limit.
use Rattle.std.proofs.Common.{refl}
use Rattle.whole.proofs.Walking.{due-few, measure_none, measure_more, measure_full, measure_done, walk_kept}
use Rattle.whole.proofs.walks.measure_all.Goals as goal

pub loop-next-init : goal.loop-next-init
loop-next-init c =
    (c.begin-walk.ensures.used, (refl, refl), λ o m v. rw c.begin-walk.ensures.bound (measure_none _ _ (due-few _ m v _ _ _)))

pub loop-next-preserved : goal.loop-next-preserved
loop-next-preserved c =
    let l = c.loop-next.invariant in (
      refl,
      walk_kept _ c.requires.0 l.1 c.requires.3 c.step.ensures.stepped,
      λ o m v. (measure_more _ _ _ _ _ _ _ _ (l.2 o m v) _ _ (rw l.0 at (c.step.ensures.stepped o m v)) c.requires.2 c.in-More.is).0,
    )

pub returns-in-Full-clause-measured : goal.returns-in-Full-clause-measured
returns-in-Full-clause-measured c =
    let l = c.loop-next.invariant in
    λ o m v. measure_full _ _ _ _ _ _ _ _ (l.2 o m v) _ _ (rw l.0 at (c.step.ensures.stepped o m v)) c.in-Full.is

pub returns-in-Done-clause-measured : goal.returns-in-Done-clause-measured
returns-in-Done-clause-measured c =
    let l = c.loop-next.invariant in
    λ o m v. measure_done _ _ _ _ _ _ _ _ (l.2 o m v) _ _ (rw l.0 at (c.step.ensures.stepped o m v)) c.requires.1 c.in-Done.is
