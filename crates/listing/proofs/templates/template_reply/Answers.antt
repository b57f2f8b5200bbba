-- The refusals in the statement's order; an offset that passes lies in the template, and so does what is due from it on.
use Rattle.std.proofs.Common.{◌+◌, get_or, refl}
use Rattle.listing.proofs.Sent.{reply-short, reply-beyond, reply-part}
use Rattle.listing.proofs.templates.template_reply.Goals as goal

pub returns-then-body-lt6 : goal.returns-then-body-lt6
returns-then-body-lt6 c = reply-short _ _ _ _ _ _ _ _ c.if-body-lt6.true c.fail.ensures

pub returns-then-length-offset : goal.returns-then-length-offset
returns-then-length-offset c =
    reply-beyond _ _ _ _ _ _ _ _ _ c.if-body-lt6.false c.u32_at-offset.ensures c.if-length-offset.true c.fail-then-length-offset.ensures

pub returns : goal.returns
returns c =
    let from = get_or c.args.row.now 8 0 + c.u32_at-offset.result in
    reply-part _ _ _ _ _ _ _ _ _ c.if-body-lt6.false c.u32_at-offset.ensures from c.min-due.result _ c.if-length-offset.false c.requires.0 refl
    (rw (c.from-wanted.ensures, c.u16_at.ensures) at c.min-due.ensures) refl (rw c.chunk-bytes.ensures at c.send_part.ensures)
