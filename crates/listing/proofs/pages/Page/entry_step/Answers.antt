-- What was measured decides: the entry is left out, or ID and attributes are put in, one right behind the other.
use Rattle.std.proofs.Common.{refl, arith}
use Rattle.laws.proofs.Put.{put_then}
use Rattle.listing.specs.Entries.{put_in, left_out}
use Rattle.listing.proofs.pages.Page.entry_step.Goals as goal

pub returns-then-limit-walk-clause-entry : goal.returns-then-limit-walk-clause-entry
returns-then-limit-walk-clause-entry c = left_out (omega (arith, c.entry_size.ensures, c.if-limit-walk.true)) refl

pub returns-clause-entry : goal.returns-clause-entry
returns-clause-entry c =
    put_in (omega (arith, c.from.ensures)) (omega (arith, c.put_attributes.ensures.end))
    (omega (arith, c.put_attributes.ensures.end, c.entry_size.ensures, c.if-limit-walk.false))
    (put_then _ _ _ _ _ _ _ c.put_u32.ensures c.put_attributes.ensures.bytes refl (omega (arith, c.entry_size.ensures, c.if-limit-walk.false, c.requires.2)))
