-- The sum of the attributes' sizes is what all of them come to; each has at most 2^32 + 1 bytes, so the sum cannot overflow.
use Rattle.std.proofs.Common.{◌≡◌, ◌∙◌, rules, length, List, ℕ, arith, ap, ◌+◌, ◌≤◌}
use Rattle.std.specs.Prelude.{sum_by}
use Rattle.std.specs.Int.{from_le_bytes, w16}
use Rattle.definition.specs.Symbols.{symbol_attribute, attributes_of}
use Rattle.listing.specs.declared.numbers.Numbers.{Numbers}
use Rattle.listing.specs.declared.symbols.Symbol.{Symbol}
use Rattle.listing.specs.Entries.{made}
use Rattle.listing.specs.Numbers.{numbers_in}
use Rattle.listing.proofs.Lists.{sum_all, few_short}
use Rattle.listing.proofs.Made.{attributes, attribute_short}
use Rattle.listing.proofs.symbols.Symbol.entry_size.Goals as goal
use Rattle.listing.proofs.symbols.Symbol.entry_size.Goals.{After-sum}

few : (s : Symbol) (numbers : Numbers) → length s.name.now ≤ 4294967295 → length (attributes_of (made s) (numbers_in numbers)) ≤ 281470681808895
few s numbers short = omega (arith, few_short _ _ (attributes (made s)) numbers.pairs.now 4294967297 (attribute_short (made s) short) numbers.few)

pub sum-requires-clause-fits : goal.sum-requires-clause-fits
sum-requires-clause-fits c =
    let s = sum_all _ _ (attributes (made c.args.self.now)) c.args.numbers.now.pairs.now in
    let l = few c.args.self.now c.args.numbers.now c.requires in
    search rules

summed : (c : After-sum) → c.sum.result ≡ length (attributes_of (made c.args.self.now) (numbers_in c.args.numbers.now))
summed c =
    let s : c.sum.result ≡ sum_by (λ (p : List ℕ). length (symbol_attribute (made c.args.self.now) (from_le_bytes w16 p)))
    c.args.numbers.now.pairs.now = search rules in
    s ∙ sum_all _ _ (attributes (made c.args.self.now)) c.args.numbers.now.pairs.now

pub overflow_add-result : goal.overflow_add-result
overflow_add-result c =
    let l = few c.args.self.now c.args.numbers.now c.requires in
    let s = summed c in
    search rules

pub returns : goal.returns
returns c = ap (λ (n : ℕ). 4 + n) (summed c)
