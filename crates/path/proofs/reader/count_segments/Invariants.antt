-- The loop's reader stands where the count goes on (`Counts.antt`'s `Counting`); a segment ends behind its start, so the loop ends.
use Rattle.std.proofs.Common.{◌≡◌, length, ◌-◌}
use Rattle.path.proofs.Counts.{Counting}
use Rattle.path.proofs.reader.count_segments.Given as goal

abbrev pub invariant-loop-r : goal.invariant-loop-r
invariant-loop-r l = (l.r.path.now ≡ l.path) × Counting l.path l.r.at l.count

abbrev pub decreases-loop-r : goal.decreases-loop-r
decreases-loop-r l = length l.path - l.r.at
