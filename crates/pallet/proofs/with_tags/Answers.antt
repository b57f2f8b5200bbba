-- `message` leaves what the definition says of these tables.
use Rattle.definition.specs.Pallet.{pallet, pallet_flags, up_from}
use Rattle.pallet.specs.Lent.{with_tags}
use Rattle.pallet.proofs.with_tags.Goals as goal

pub returns : goal.returns
unfolding with_tags pallet pallet_flags up_from
returns c = c.message.ensures
