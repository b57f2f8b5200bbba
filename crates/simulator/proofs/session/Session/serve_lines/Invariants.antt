-- Each line lies in the input and begins behind the one before it.
use Rattle.std.proofs.Common.{◌≡◌, ◌≤◌, ◌-◌, length}
use Rattle.simulator.proofs.session.Session.serve_lines.Given as goal

abbrev pub invariant-loop-len : goal.invariant-loop-len
invariant-loop-len g l =
    (l.next.at ≤ length l.input) × (length l.memory ≡ length l.initial.memory)

abbrev pub decreases-loop-len : goal.decreases-loop-len
decreases-loop-len g l = length l.input - l.next.at
