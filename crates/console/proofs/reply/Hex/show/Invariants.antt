-- The pieces are never longer than the text has room for.
use Rattle.std.proofs.Common.{◌≡◌}
use Rattle.console.proofs.reply.Hex.show.Given as goal

abbrev pub invariant-loop-piece : goal.invariant-loop-piece
invariant-loop-piece g l = l.piece-iterator.size ≡ 1024
