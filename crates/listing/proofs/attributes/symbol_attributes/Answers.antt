-- If another symbol has the ID, its name decides; else no program is named, and the tags decide between a plain list and 0x05.
use Rattle.model.specs.Tables.{tables_of}
use Rattle.listing.proofs.Found.{found_some}
use Rattle.listing.proofs.Objects.{other_listed, symbol-unknown, tag_listed}
use Rattle.listing.proofs.attributes.symbol_attributes.Goals as goal

pub returns-in-Some : goal.returns-in-Some
returns-in-Some c =
    other_listed _ _ _ _ _ _ (tables_of c.args.t.now) _ _ _ c.in-Some.ensures (rw c.other_name-name.ensures.name at c.program_of.ensures) c.answer.ensures

pub returns-then-is_none : goal.returns-then-is_none
returns-then-is_none c =
    let none = found_some _ _ _ c.if-is_none.ensures c.find_id-2.ensures in
    symbol-unknown _ _ _ _ _ _ (tables_of c.args.t.now) _ c.in_default.ensures none c.refuse.ensures

pub returns : goal.returns
returns c =
    let some = found_some _ _ _ c.if-is_none.ensures c.find_id-2.ensures in
    tag_listed _ _ _ _ _ _ (tables_of c.args.t.now) _ c.in_default.ensures some c.answer-2.ensures
