-- The bound behind the page is the start if something is due from it on; else nothing is left.
use Rattle.whole.proofs.Walking.{starts_next}
use Rattle.whole.proofs.walks.next_start.Goals as goal

pub returns-clause-starts : goal.returns-clause-starts
returns-clause-starts c = λ o m v. starts_next _ _ _ _ _ _ _ (c.next_bound.ensures.passed o m v) m v _ c.start_from.ensures
