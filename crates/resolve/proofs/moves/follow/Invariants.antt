-- The walk from here on is the whole walk; each step leaves fewer segments.
use lib.ListN.{length}
use Rattle.model.specs.Tables.{tables_of, flags_of}
use Rattle.resolve.specs.Paths.{left}
use Rattle.resolve.proofs.Stepping.{Following}
use Rattle.resolve.proofs.moves.follow.Given as goal

abbrev pub invariant-loop-rest : goal.invariant-loop-rest
invariant-loop-rest l = Following (tables_of l.c.tables) (flags_of l.c.flags) (left l.from) l.fn.first (left l.rest) l.g

abbrev pub decreases-loop-rest : goal.decreases-loop-rest
decreases-loop-rest l = length (left l.rest)
