-- What the search found decides, which is the next entry due: a tag's or another symbol's, made from its row, or none.
use Rattle.model.specs.Tables.{tables_of}
use Rattle.listing.proofs.Hinted.{ids_apart}
use Rattle.listing.proofs.Paged.{tag_step, other_step, none_step, tag_listable}
use Rattle.listing.proofs.pages.Page.step.Goals as goal

pub next_near-requires : goal.next_near-requires
next_near-requires c = ids_apart (tables_of c.args.t.now) c.requires.0

pub of_tag-symbol-requires : goal.of_tag-symbol-requires
of_tag-symbol-requires c = tag_listable (tables_of c.args.t.now) _ _ c.requires.0 _ _ c.in-Some-Tag.ensures c.in-Some-Tag.field-0-is

pub returns-in-Some-Tag-clause-stepped : goal.returns-in-Some-Tag-clause-stepped
returns-in-Some-Tag-clause-stepped c o memory v =
    tag_step (tables_of c.args.t.now) _ _ o memory v _ _ _ _ _ _ _ _ _ c.in-Some-Tag.ensures c.in-Some-Tag.field-0-is c.of_tag-symbol.ensures.symbol
    c.put_entry.ensures.entry

pub returns-in-Some-Other-clause-stepped : goal.returns-in-Some-Other-clause-stepped
returns-in-Some-Other-clause-stepped c o memory v =
    other_step (tables_of c.args.t.now) _ _ o memory v _ _ _ _ _ _ _ _ _ c.in-Some-Other.ensures c.in-Some-Other.field-0-is c.of_other-symbol.ensures.symbol
    c.put_entry-in-Some-Other.ensures.entry

pub returns-in-None-clause-stepped : goal.returns-in-None-clause-stepped
returns-in-None-clause-stepped c o memory v = none_step (tables_of c.args.t.now) _ _ o memory v _ _ _ _ c.in-None.ensures
