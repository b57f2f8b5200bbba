-- Surely fine, surely not, or each two rows in the statement's order.
use Rattle.std.specs.Prelude.{refl}
use Rattle.std.proofs.Common.{rules}
use Rattle.spread.proofs.Keyed.{programs_left, not-all}
use Rattle.tables.proofs.pairs_judged.Goals as goal

pub returns-in-Ok : goal.returns-in-Ok
returns-in-Ok c = programs_left _ _ (c.sure.ensures (search rules)) c.programs_apart.ensures

pub returns-in-Err-Symbol : goal.returns-in-Err-Symbol
returns-in-Err-Symbol c = not-all _ _ (c.fails.ensures c.if-fails.true) refl
