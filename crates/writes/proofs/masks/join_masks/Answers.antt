-- The four masks are of one length where they are joinable.
use mathlib.Core.Path.{sym, ◌∙◌}
use native.Mathlib.Omega.{arith}
use Rattle.definition.specs.Joined.{pair}
use Rattle.writes.proofs.Masking.{joinable_lengths}
use Rattle.writes.proofs.masks.join_masks.Goals as goal

pub apply_masks-requires : goal.apply_masks-requires
apply_masks-requires c =
    let same =
    joinable_lengths (pair c.args.ors.now c.args.ands.now) (pair c.args.next_ors.now c.args.next_ands.now)
    (sym c.are_joinable.ensures ∙ c.if-not-are_joinable.false) in
    (omega arith, omega arith)

pub add_ors-requires : goal.add_ors-requires
add_ors-requires c =
    let same =
    joinable_lengths (pair c.args.ors.now c.args.ands.now) (pair c.args.next_ors.now c.args.next_ands.now)
    (sym c.are_joinable.ensures ∙ c.if-not-are_joinable.false) in
    omega arith
