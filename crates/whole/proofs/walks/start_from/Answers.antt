-- A symbol that is found has an ID not below the bound.
use Rattle.whole.proofs.Walking.{next-id}
use Rattle.whole.proofs.walks.start_from.Goals as goal

pub start_below-requires : goal.start_below-requires
start_below-requires c = next-id _ _ _ _ c.in_ok-next.ensures c.in-Tag.is
