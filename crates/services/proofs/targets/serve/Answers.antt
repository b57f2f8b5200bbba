-- Read, masked write or write, tested in the definition's order; of a write the status alone is the reply.
use Rattle.reads.proofs.Aiming.{aimed_atomic}
use Rattle.services.proofs.targets.serve.Goals as goal

pub masked_write-stored-requires : goal.masked_write-stored-requires
masked_write-stored-requires c = aimed_atomic _ _ _ c.requires.0
