-- It ends: each pass moves on by an entry that is there whole.
use Rattle.std.proofs.Common.{length}
use Rattle.bench.proofs.joined.last_id.Given as goal

abbrev pub decreases-loop-head : goal.decreases-loop-head
decreases-loop-head l = length l.rest
