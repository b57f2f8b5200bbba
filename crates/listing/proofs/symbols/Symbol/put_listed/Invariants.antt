use Rattle.listing.specs.Entries.{made}
use Rattle.listing.proofs.Lists.{Puts}
use Rattle.listing.proofs.Made.{attributes}
use Rattle.listing.proofs.symbols.Symbol.put_listed.Given as goal

abbrev pub invariant-loop-pair : goal.invariant-loop-pair
invariant-loop-pair l = Puts _ _ (attributes (made l.self)) l.pairs l.at l.initial.buf l.pair-index l.used l.buf
