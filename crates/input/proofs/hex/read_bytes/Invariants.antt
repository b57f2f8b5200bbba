-- What was read so far, and the text that goes on with it (`Parsing.antt`'s `Gathering`).
use lib.ListN.{length}
use Rattle.input.proofs.Parsing.{Gathering}
use Rattle.input.proofs.hex.read_bytes.Given as goal

abbrev pub invariant-loop-rest : goal.invariant-loop-rest
invariant-loop-rest l = Gathering l.limit l.text l.initial.request l.rest l.len l.request

abbrev pub decreases-loop-rest : goal.decreases-loop-rest
decreases-loop-rest l = length l.rest
