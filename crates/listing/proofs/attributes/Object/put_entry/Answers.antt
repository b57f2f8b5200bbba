-- Number, status word and value, each put right behind the one before it, are the entry; an unknown one has no value.
use Rattle.std.proofs.Common.{arith}
use Rattle.listing.proofs.Objects.{entry-unknown, entry_known}
use Rattle.listing.proofs.attributes.Object.put_entry.Goals as goal

pub returns-in_default : goal.returns-in_default
returns-in_default c =
    let fits = rw (← c.in_default.ensures) at c.requires in
    rw (← c.in_default.ensures) (entry-unknown _ _ _ _ _ c.put_u16.ensures c.put_u16-in_default.ensures (omega (arith, fits)))

pub returns : goal.returns
returns c =
    let fits = rw (← c.in-Some.ensures) at c.requires in
    rw (← c.in-Some.ensures) (entry_known _ _ _ _ _ c.put_u16.ensures _ _ _ c.put_u16-2.ensures c.put.ensures (omega (arith, fits)))
