-- The fold over the rows that are left, from the best so far, is the fold over all; the row that is taken stands behind those left.
use Rattle.std.proofs.Common.{◌≡◌, ◌∙◌, sym, ◌+◌, length}
use Rattle.std.proofs.lemmas.List.{nil_from_length}
use Rattle.laws.specs.Fold.{fold}
use Rattle.laws.proofs.Fold.{fold_push}
use Rattle.model.specs.Least.{least_row, least_in}
use Rattle.model.proofs.least.least_in.Goals as goal

pub loop-place-preserved : goal.loop-place-preserved
loop-place-preserved g c =
    let s = c.in-Some.ensures.steps in
    let f = least_row c.args.from.scope c.args.from.id in
    let place : c.in-Some.place ≡ 0 + length c.next.new.self.iter.iter.rest.now = rw c.loop-place.invariant.0 at s.1.1 in (
      s.0 ∙ c.loop-place.invariant.0,
      rw (c.least_from-best.ensures, place) (sym (fold_push f c.loop-place.best 0 c.next.new.self.iter.iter.rest.now c.in-Some.row.now)
          ∙ rw s.1.0 at c.loop-place.invariant.1),
    )

pub returns : goal.returns
unfolding least_in fold
returns g c = rw (nil_from_length _ c.in-None.ensures.steps.1.0) at c.loop-place.invariant.1
