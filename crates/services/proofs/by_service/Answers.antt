-- The tests in the definition's order: a symbol page, a tag service on a tag path, else the refusal by the path's object.
use Rattle.services.proofs.Choosing.{by_page, by_tag, by_other}
use mathlib.Core.Path.{refl}
use borrow.Author.Rules.{rules}
use Rattle.model.proofs.Lent.{some-valid}
use Rattle.services.proofs.by_service.Goals as goal

pub list_symbols-requires : goal.list_symbols-requires
list_symbols-requires c = (some-valid _ _ _ c.requires.judged refl, c.requires.room)

pub returns-then-q-eq-SYMBOL_PAGE : goal.returns-then-q-eq-SYMBOL_PAGE
returns-then-q-eq-SYMBOL_PAGE c =
    by_page _ _ _ _ _ _ _ _ _ _ c.if-q-eq-SYMBOL_PAGE.true c.requires.judged c.list_symbols.ensures.is

pub returns-then-is_tag_request : goal.returns-then-is_tag_request
returns-then-is_tag_request c =
    by_tag _ _ _ _ _ _ _ _ _ _ (search rules) _ c.is_tag_request.ensures c.if-is_tag_request.true _
    c.tag_service.ensures

pub returns : goal.returns
returns c =
    by_other _ _ _ _ _ _ _ _ _ _ (search rules) _ c.is_tag_request.ensures c.if-is_tag_request.false c.args.o
    c.requires.object c.refuse_other.ensures
