-- With the bench's own tags the tables are those of the pallet bench.
use Rattle.definition.specs.Pallet.{pallet}
use Rattle.pallet.specs.Lent.{with_tags}
use Rattle.pallet.proofs.message.Goals as goal

pub returns : goal.returns
unfolding with_tags pallet
returns c = c.with_tags.ensures
