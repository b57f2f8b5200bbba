-- The definition's cases in its order: no segments, no tag path, no target; a target that is found lies in tag memory.
use Rattle.std.proofs.Common.{arith, refl, sym}
use Rattle.model.proofs.Lent.{some-valid}
use Rattle.whole.proofs.Sizing.{uncounted, counted-some, size-cut, size_no_tag, size-turned, size_aimed, size_found}
use Rattle.whole.proofs.sizes.selected_size.Goals as goal

pub returns-in_err-count_segments : goal.returns-in_err-count_segments
returns-in_err-count_segments c =
    rw c.from_residual.ensures (size-cut _ _ _ _ _ (uncounted _ (sym c.in_err-count_segments.ensures)))

pub is_tag_path-requires : goal.is_tag_path-requires
is_tag_path-requires c = counted-some _ _ (sym c.in_ok-count_segments.ensures)

pub returns-then-not-is_tag_path : goal.returns-then-not-is_tag_path
returns-then-not-is_tag_path c = size_no_tag _ _ _ _ _ c.if-not-is_tag_path.ensures

pub tag_target-requires : goal.tag_target-requires
tag_target-requires c = (counted-some _ _ (sym c.in_ok-count_segments.ensures), some-valid _ _ _ c.requires refl)

pub granted_size-requires : goal.granted_size-requires
granted_size-requires c =
    let decodes = counted-some _ _ (sym c.in_ok-count_segments.ensures) in
    let a = size_aimed _ _ _ _ c.args.read.now.elements c.if-not-is_tag_path.ensures c.in-Ok.g (rw c.in-Ok.is at c.tag_target.ensures) c.requires decodes in
    (a.some_elements, omega (arith, a.in_memory, a.small_memory))

pub returns-in-Ok : goal.returns-in-Ok
returns-in-Ok c =
    let decodes = counted-some _ _ (sym c.in_ok-count_segments.ensures) in
    size_found _ _ _ _ _ c.if-not-is_tag_path.ensures c.in-Ok.g (rw c.in-Ok.is at c.tag_target.ensures) c.requires decodes _
    (rw c.from.ensures at c.granted_size.ensures)

pub returns-in-Err : goal.returns-in-Err
returns-in-Err c = size-turned _ _ _ _ _ c.if-not-is_tag_path.ensures _ (rw c.in-Err.is at c.tag_target.ensures)
