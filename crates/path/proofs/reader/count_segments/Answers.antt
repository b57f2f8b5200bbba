-- What each call says of the reader's own path is said of the path; the lemmas of `Counts.antt` do the rest.
use mathlib.Core.Path.{sym, ap, subst, ◌∙◌}
use mathlib.Core.List.{List}
use Prim.Native.Nat.{ℕ, ◌<◌, ◌≤◌}
use lib.ListN.{length}
use Rattle.std.proofs.Common.{Bor, rules}
use Rattle.path.proofs.Counts.{Counting, going_start, going_end, going_bad, going_next, going_less}
use Rattle.path.proofs.reader.count_segments.Goals as goal

pub loop-r-init : goal.loop-r-init
loop-r-init c = (
  ap (λ (y : Bor (List ℕ)). y.now) c.new-r.ensures.path,
  subst (λ (n : ℕ). Counting c.args.path.now n 0) (sym c.new-r.ensures.at) (going_start c.args.path.now),
)

pub returns-in_err-segment : goal.returns-in_err-segment
returns-in_err-segment c =
    let same = c.loop-r.invariant.0 in
    let inside : c.loop-r.r.at < length c.args.path.now = rw (← same) (search rules) in
    rw c.from_residual.ensures (going_bad _ _ _ c.loop-r.invariant.1 inside (rw same at c.in_err-segment.ensures.stands.0))

pub loop-r-smaller : goal.loop-r-smaller
loop-r-smaller c =
    let same = c.loop-r.invariant.0 in
    let inside : c.loop-r.r.at < length c.args.path.now = rw (← same) (search rules) in
    going_less _ _ _ c.loop-r.invariant.1 _ _ (rw same at c.in_ok-segment.ensures.stands) inside

pub loop-r-preserved : goal.loop-r-preserved
loop-r-preserved c =
    let same = c.loop-r.invariant.0 in (
      ap (λ (y : Bor (List ℕ)). y.now) c.in_ok-segment.ensures.path_is ∙ same,
      going_next _ _ _ c.loop-r.invariant.1 _ _ (rw same at c.in_ok-segment.ensures.stands),
    )

pub returns : goal.returns
returns c =
    let same = c.loop-r.invariant.0 in
    let over : length c.args.path.now ≤ c.loop-r.r.at = rw (← same) (search rules) in
    going_end _ _ _ c.loop-r.invariant.1 over
