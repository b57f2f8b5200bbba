-- The records are the slice's; their rows follow, since one record set is its row set.
use Rattle.records.proofs.Lists.{rows-set}
use Rattle.records.proofs.set_tag.Goals as goal

pub returns-clause-rows : goal.returns-clause-rows
returns-clause-rows c = rows-set _ _ _
