-- No page is granted just where the definition has no entries: then the first reply stays in the buffer.
use Rattle.whole.proofs.Outcomes.{few_scopes, list_turned}
use Rattle.whole.proofs.lists.list_askable.Goals as goal

pub page_of-requires : goal.page_of-requires
page_of-requires c = few_scopes _ _ c.requires.tables

pub returns-in_default-clause-whole : goal.returns-in_default-clause-whole
returns-in_default-clause-whole c =
    list_turned _ _ _ _ (rw c.in_default.is at c.page_of.ensures) c.first_status-status.ensures.status c.first_status-status.ensures.buffer
