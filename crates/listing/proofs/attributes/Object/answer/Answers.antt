-- The count and what was measured decide, as in the definition; header, count and entries, each put right behind the one before it, are the reply.
use Rattle.std.proofs.Common.{◌≡◌, length, arith}
use Rattle.std.proofs.lemmas.List.{length-map}
use Rattle.listing.specs.Numbers.{word, numbers_in}
use Rattle.listing.proofs.Objects.{list-large, list_sent}
use Rattle.listing.proofs.attributes.Object.answer.Goals as goal

pub returns-then-limit-entries_size : goal.returns-then-limit-entries_size
returns-then-limit-entries_size c =
    list-large _ _ c.args.self.now _ _ (numbers_in c.in-Some.numbers) c.in-Some.ensures
    (omega (arith, c.entries_size.ensures.size, c.if-limit-entries_size.true)) c.fail.ensures

pub returns : goal.returns
returns c =
    let n : length (numbers_in c.in-Some.numbers) ≡ length c.in-Some.numbers.pairs.now = length-map c.in-Some.numbers.pairs.now word in
    list_sent _ _ c.args.self.now _ _ (numbers_in c.in-Some.numbers) c.in-Some.ensures _ _ _ _ _ _ _ _
    (omega (arith, c.entries_size.ensures.size, c.if-limit-entries_size.false)) (omega (arith, n, c.in-Some.numbers.few)) c.requires c.put_header.ensures
    (rw n c.low16.ensures) c.put_u16.ensures c.put_entries-used.ensures.end c.put_entries-used.ensures.bytes c.finish.ensures.0 c.finish.ensures.1
