-- If what is left is put behind what is written so far, all attributes stand there; as all of them fit, so does the next.
use Rattle.std.proofs.Common.{arith, rules}
use Rattle.listing.specs.Entries.{made}
use Rattle.listing.proofs.Lists.{sum_next, sum_end, put_fits, put_next, put_end}
use Rattle.listing.proofs.Made.{attributes}
use Rattle.listing.proofs.symbols.Symbol.put_listed.Goals as goal

pub put-used-requires : goal.put-used-requires
put-used-requires c =
    rw c.value.ensures (put_fits _ _ (attributes (made c.args.self.now)) _ _ _ _ _ c.args.buf.now _ c.loop-pair.invariant c.loop-pair-test.true
    c.from_le_bytes.ensures (omega (arith, c.requires, c.loop-pair.auto.buf)))

pub overflow_add-used : goal.overflow_add-used
overflow_add-used c =
    let w = rw c.value.ensures at c.put-used.ensures in
    let next = sum_next _ _ (attributes (made c.args.self.now)) _ _ _ _ _ _ c.loop-pair.invariant.0 c.loop-pair-test.true c.from_le_bytes.ensures w.length_is in
    search rules

pub loop-pair-preserved : goal.loop-pair-preserved
loop-pair-preserved c =
    put_next _ _ (attributes (made c.args.self.now)) _ _ _ _ _ c.args.buf.now _ c.loop-pair.invariant c.loop-pair-test.true c.from_le_bytes.ensures
    (omega (arith, c.requires, c.loop-pair.auto.buf)) _ _ (rw c.value.ensures at c.put-used.ensures)

pub returns-clause-end : goal.returns-clause-end
returns-clause-end c = sum_end _ _ (attributes (made c.args.self.now)) _ _ _ _ c.loop-pair.invariant.0 c.loop-pair-test.false

pub returns-clause-bytes : goal.returns-clause-bytes
returns-clause-bytes c = put_end _ _ (attributes (made c.args.self.now)) _ _ _ _ c.args.buf.now _ c.loop-pair.invariant c.loop-pair-test.false
