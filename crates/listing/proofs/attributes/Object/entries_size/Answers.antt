-- The sum of the entries' sizes is what all entries come to; each has at most 16 bytes.
use Rattle.std.proofs.Common.{◌≡◌, ◌∙◌, rules, length, List, ℕ, arith}
use Rattle.std.specs.Prelude.{sum_by}
use Rattle.std.specs.Int.{from_le_bytes, w16}
use Rattle.definition.specs.Attributes.{attribute_entry, attribute_entries}
use Rattle.listing.specs.Objects.{object_value}
use Rattle.listing.specs.Numbers.{numbers_in}
use Rattle.listing.proofs.Lists.{sum_all, few_short}
use Rattle.listing.proofs.Objects.{entries, entry_short}
use Rattle.listing.proofs.attributes.Object.entries_size.Goals as goal
use Rattle.listing.proofs.attributes.Object.entries_size.Goals.{After-sum}

summed : (c : After-sum) → c.sum.result ≡ length (attribute_entries (object_value c.args.self.now) (numbers_in c.args.numbers.now))
summed c =
    let s : c.sum.result ≡ sum_by (λ (p : List ℕ). length (attribute_entry (from_le_bytes w16 p) (object_value c.args.self.now (from_le_bytes w16 p))))
    c.args.numbers.now.pairs.now = search rules in
    s ∙ sum_all _ _ (entries c.args.self.now) c.args.numbers.now.pairs.now

pub returns-clause-size : goal.returns-clause-size
returns-clause-size c = summed c

pub returns-clause-small : goal.returns-clause-small
returns-clause-small c =
    omega (
      arith,
      summed c,
      few_short _ _ (entries c.args.self.now) c.args.numbers.now.pairs.now 16 (entry_short c.args.self.now) c.args.numbers.now.few,
    )
