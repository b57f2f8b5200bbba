-- Masks that the target takes have its type's size, and so many bytes are in memory.
use mathlib.Core.Path.{sym, ◌∙◌}
use Rattle.std.proofs.Common.{rules}
use Rattle.writes.proofs.Masking.{masks_fit, masks_stored}
use Rattle.writes.proofs.masks.masked_write.Goals as goal

pub slice_bounds-bytes-end : goal.slice_bounds-bytes-end
slice_bounds-bytes-end c =
    let takes = sym c.takes_mask.ensures ∙ c.if-not-takes_mask.false in
    let fits = masks_fit c.args.memory.now _ c.args.body.now _ takes c.requires in
    search rules

pub returns : goal.returns
returns c =
    let takes = sym c.takes_mask.ensures ∙ c.if-not-takes_mask.false in
    masks_stored _ _ _ _ takes _ (c.from-size.ensures ∙ c.u16_at.ensures) c.if-body-end.false c.if-end-body.false
    (masks_fit c.args.memory.now _ c.args.body.now _ takes c.requires) c.apply_masks.ensures
