-- A body without a count is also shorter than any count asks; else the length that the count asks decides, and the pairs of bytes are the numbers.
use Rattle.std.proofs.Common.{◌≡◌, ◌∙◌, ◌+◌, ◌*◌, arith}
use native.Mathlib.Nat.{add-sub_cancel_left}
use Rattle.definition.specs.Bytes.{u16_at}
use Rattle.listing.proofs.Lists.{beyond, first_word, list-short, list-cut, list_read}
use Rattle.listing.proofs.numbers.Numbers.read.Goals as goal

pub returns-in_err-get : goal.returns-in_err-get
returns-in_err-get c = rw c.from_residual.ensures (list-short c.args.body.now (beyond 0 2 _ (omega arith) c.in_err-get.ensures.lookup.1))

pub returns-in_err-get-2 : goal.returns-in_err-get-2
returns-in_err-get-2 c =
    let n = c.from-count.result in
    let count : n ≡ u16_at c.args.body.now 0 = c.from-count.ensures ∙ c.u16_at.ensures ∙ first_word _ _ c.in_ok-get.ensures.lookup.0.2 in
    rw c.from_residual-in_err-get-2.ensures
    (list-cut c.args.body.now n count (beyond 2 (2 + 2 * n) _ (omega arith) c.in_err-get-2.ensures.lookup.1))

pub returns : goal.returns
returns c =
    let n = c.from-count.result in
    let count : n ≡ u16_at c.args.body.now 0 = c.from-count.ensures ∙ c.u16_at.ensures ∙ first_word _ _ c.in_ok-get.ensures.lookup.0.2 in
    let found = c.in_ok-get-2.ensures.lookup.0 in
    let is = rw add-sub_cancel_left at found.2 in
    list_read c.args.body.now n count _ _ found.1 is (omega (arith, found.3)) c.as_chunks.ensures.front
