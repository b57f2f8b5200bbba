-- The loop's reader stands where a walk over so many segments has come (`Reaching.antt`'s `Reaching`).
use Rattle.std.proofs.Common.{◌≡◌}
use Rattle.path.proofs.Reaching.{Reaching}
use Rattle.path.proofs.reader.nth_segment.Given as goal

abbrev pub invariant-loop : goal.invariant-loop
invariant-loop l = (l.r.path.now ≡ l.path) × Reaching l.path l.r.at l.counter
