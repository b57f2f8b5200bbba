-- Split on whether the status has an extended word; the pieces lie next to each other and make up the definition's header.
use Rattle.cip.proofs.Laws.{header_with_word, header_without}
use mathlib.Core.Path.{sym, ◌∙◌}
use Rattle.cip.proofs.put_header.Goals as goal

pub returns-in_default : goal.returns-in_default
returns-in_default c =
    header_without _ _ _ _ _ _ c.requires c.code.ensures (sym c.word.ensures ∙ c.in_default.is) c.put_start.ensures c.put_u8.ensures

pub returns : goal.returns
returns c =
    header_with_word _ _ _ _ _ _ _ _ c.requires c.code.ensures (sym c.word.ensures ∙ c.in-Some.is) c.put_start.ensures
    c.put_u8-2.ensures c.put_u16.ensures
