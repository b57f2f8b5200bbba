-- A word of decimal digits is text, and `parse` reads its number, if that is no more than 65,535.
use mathlib.Core.Path.{sym, ◌∙◌}
use Rattle.input.specs.Lines.{limit_of}
use Rattle.input.proofs.Digits.{is_text, text_is, number_is_text, limit_read, limit-over}
use Rattle.input.proofs.hex.limit_of.Goals as goal

pub returns-then-not-is_number : goal.returns-then-not-is_number
unfolding limit_of
returns-then-not-is_number c = rw (sym c.is_number.ensures ∙ c.if-not-is_number.true)

pub unwrap-digits-requires : goal.unwrap-digits-requires
unwrap-digits-requires c =
    let is = sym c.is_number.ensures ∙ c.if-not-is_number.false in
    is_text _ _ _ c.from_utf8.ensures.cases (number_is_text c.args.word.now is)

pub returns-in-Ok : goal.returns-in-Ok
returns-in-Ok c =
    let is = sym c.is_number.ensures ∙ c.if-not-is_number.false in
    let same = text_is _ _ _ _ c.from_utf8.ensures.cases c.unwrap-digits.ensures in
    rw c.from.ensures (limit_read c.args.word.now is c.unwrap-digits.result.now same c.parse.result c.parse.ensures.value.0 c.in-Ok.limit c.in-Ok.is)

pub returns-in-Err : goal.returns-in-Err
returns-in-Err c =
    let is = sym c.is_number.ensures ∙ c.if-not-is_number.false in
    let same = text_is _ _ _ _ c.from_utf8.ensures.cases c.unwrap-digits.ensures in
    limit-over c.args.word.now is c.unwrap-digits.result.now same c.parse.result c.parse.ensures.value.0 _ c.in-Err.is
