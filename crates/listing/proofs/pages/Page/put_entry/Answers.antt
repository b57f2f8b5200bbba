-- The definition's entry of a symbol is the one that is listed by the symbol's own ID.
use Rattle.definition.specs.Symbols.{entry_of}
use Rattle.listing.proofs.pages.Page.put_entry.Goals as goal

pub returns-clause-entry : goal.returns-clause-entry
unfolding entry_of
returns-clause-entry c = c.entry_step.ensures.entry
