-- Each arm puts in the bytes of its layout and returns their number; a name stands right behind the number of its bytes, whose low 16 bits are sent.
use Rattle.std.proofs.Common.{refl, arith}
use Rattle.laws.proofs.Put.{put_then}
use Rattle.model.proofs.Laws.{le16_low}
use Rattle.listing.proofs.values.Value.put.Goals as goal

pub returns-in-Name : goal.returns-in-Name
returns-in-Name c = rw c.in-Name.is (record {
  length_is = omega arith;
  buffer_is =
      put_then _ _ _ _ _ _ _ (rw (c.low16.ensures, le16_low) at c.put_u16-in-Name.ensures) c.copy_into.ensures refl
      (omega (arith, rw c.in-Name.is at c.requires, c.put_u16-in-Name.auto.buf));
})
