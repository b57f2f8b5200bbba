-- The page of the entries put so far and of those still due is the page asked for; each turn adds at least four bytes.
use Rattle.std.proofs.Common.{arith}
use Rattle.listing.proofs.Filled.{filled_none, entry_added, page_stopped, page_ended, further_more}
use Rattle.listing.proofs.pages.Page.put.Goals as goal

pub loop-next-init : goal.loop-next-init
loop-next-init c = (
  omega (arith, c.begin-walk.ensures.used),
  omega (arith, c.begin-walk.ensures.used, c.max-end.ensures),
  λ o m v. rw (c.begin-walk.ensures.used, c.begin-walk.ensures.bound) (filled_none _ _ _ _ _ _ _ _ c.max-end.ensures),
)

pub loop-next-preserved : goal.loop-next-preserved
loop-next-preserved c =
    let f = further_more _ _ _ c.in-More.is c.step.ensures.further in (
      omega (arith, f.0, c.loop-next.invariant.0),
      f.1,
      λ o m v. entry_added _ _ _ _ _ _ _ _ _ _ _ _ _ (c.loop-next.invariant.2 o m v) (c.step.ensures.stepped o m v)
          c.in-More.is f.0 (omega (arith, c.max-end.ensures, c.requires.1)),
    )

pub returns-in-Full : goal.returns-in-Full
returns-in-Full c o m v =
    page_stopped _ _ _ _ _ _ _ _ _ _ _ _ _ (c.loop-next.invariant.2 o m v) (c.step.ensures.stepped o m v)
    c.in-Full.is c.loop-next.invariant.1 c.max-end.ensures c.requires.1 c.stop.ensures

pub returns-in-Done : goal.returns-in-Done
returns-in-Done c o m v =
    page_ended _ _ _ _ _ _ _ _ _ _ _ _ _ (c.loop-next.invariant.2 o m v) (c.step.ensures.stepped o m v)
    c.in-Done.is c.loop-next.invariant.1 c.max-end.ensures c.requires.1 c.close.ensures
