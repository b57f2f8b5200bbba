use Rattle.listing.proofs.Lists.{Puts}
use Rattle.listing.proofs.Objects.{entries}
use Rattle.listing.proofs.attributes.Object.put_entries.Given as goal

abbrev pub invariant-loop-pair : goal.invariant-loop-pair
invariant-loop-pair l = Puts _ _ (entries l.self) l.numbers.pairs.now l.at l.initial.buf l.pair-index l.used l.buf
