-- Each field is what its callee ensures of the row, and a row with elements is long enough for its lengths.
use Rattle.std.proofs.Common.{ap, get_or, List, [], ℕ}
use Rattle.model.specs.Shapes.{shapes_of}
use Rattle.model.specs.Tables.{tables_of}
use Rattle.listing.specs.Entries.{tag_lent}
use Rattle.listing.proofs.Made.{tag-made}
use Rattle.listing.proofs.symbols.Symbol.of_tag.Goals as goal

pub returns-clause-symbol : goal.returns-clause-symbol
unfolding shapes_of
returns-clause-symbol c o =
    let count = rw c.lengths_of.ensures at c.count_lengths-dims.ensures.count in
    tag-made (tag_lent (tables_of c.args.t.now) o) c.args.row.now _ _ _ _ _ _ c.requires.1 c.part_of.ensures count c.symbol_type.ensures
    c.control_of.ensures c.element_size.ensures (ap (λ (s : List (List ℕ)). get_or s 0 []) c.shapes.ensures)
