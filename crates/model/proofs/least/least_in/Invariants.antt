use Rattle.std.specs.Prelude.{◌≡◌, None}
use Rattle.laws.specs.Fold.{fold}
use Rattle.model.specs.Least.{least_row}
use Rattle.model.proofs.least.least_in.Given as goal

abbrev pub invariant-loop-place : goal.invariant-loop-place
invariant-loop-place g l =
    (l.place-iterator.iter.count ≡ 0)
    × (fold (least_row l.from.scope l.from.id) l.best 0 l.place-iterator.iter.iter.rest.now ≡ fold (least_row l.from.scope l.from.id) None 0 l.rows)
