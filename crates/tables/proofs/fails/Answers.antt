-- One symbol that does not pass against one behind it is enough.
use Rattle.std.proofs.Common.{rules, length, ◌+◌, ◌-◌}
use Rattle.spread.proofs.Keyed.{tag_fails, tag_fails_other, other_fails}
use Rattle.tables.proofs.Facts.{behind}
use Rattle.tables.proofs.fails.Goals as goal

pub returns-then-not-tag_apart : goal.returns-then-not-tag_apart
returns-then-not-tag_apart c = λ e. tag_fails _ _ _ (search rules) (behind _ c.args.t.now.tags.now (c.args.i + 1) _ c.tag_apart.ensures) e

pub returns-else-not-tag_apart : goal.returns-else-not-tag_apart
returns-else-not-tag_apart c = λ e. tag_fails_other _ _ _ (search rules) c.tag_and_others.ensures e

pub returns-then-k-t : goal.returns-then-k-t
returns-then-k-t c =
    let t = c.args.t.now in
    λ e. other_fails _ _ _ (search rules) (behind _ t.others.now (c.args.i - length t.tags.now + 1) _ c.other_apart.ensures) e
