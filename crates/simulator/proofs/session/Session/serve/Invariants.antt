-- A turn keeps all lengths, so the tables stay valid for the memory; the place stays in the input.
use Rattle.std.proofs.Common.{◌≡◌, ◌≤◌, length}
use Rattle.simulator.proofs.session.Session.serve.Given as goal

abbrev pub invariant-loop : goal.invariant-loop
invariant-loop g l =
    (length l.memory ≡ length l.initial.memory) × (length l.input ≡ 262144) × (l.place.at ≤ 262144)
