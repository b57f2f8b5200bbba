-- Of bytes, which a slice holds by its type, the definition says more than of numbers.
use Rattle.std.proofs.Common.{rules}
use Rattle.continued.proofs.Clicks.{bytes_of, rests}
use Rattle.continued.proofs.resting.Goals as goal

pub returns-clause-rests : goal.returns-clause-rests
returns-clause-rests c = rests _ _ _ _ _ _ _ (bytes_of c.args.memory.now (λ i. search rules)) c.message.ensures.memory_is
