-- A body too short for its fields is refused; of any other a bit or a value decides as in the definition.
use mathlib.Core.Path.{sym}
use Rattle.std.proofs.lemmas.Result.{err_from_is_err_and}
use Rattle.writes.proofs.Storing.{fields_missing, writes_bit, writes_value}
use Rattle.writes.proofs.values.write.Goals as goal

pub returns-in_err-w : goal.returns-in_err-w
returns-in_err-w c =
    let same = err_from_is_err_and c.from_residual.result c.from_residual.ensures.1 in
    rw (same.1, same.2) (fields_missing _ _ _ _ _ _ c.fields_of.ensures.fields c.fields_of.ensures.offset _ (sym c.in_err-w.ensures.value))

pub returns-then-g-ne-NO_BIT : goal.returns-then-g-ne-NO_BIT
returns-then-g-ne-NO_BIT c =
    writes_bit _ _ _ _ _ _ c.fields_of.ensures.fields c.fields_of.ensures.offset _ (sym c.in_ok-w.ensures.value) _ _
    c.if-g-ne-NO_BIT.true c.write_bit.ensures

pub returns : goal.returns
returns c =
    writes_value _ _ _ _ _ _ c.fields_of.ensures.fields c.fields_of.ensures.offset _ (sym c.in_ok-w.ensures.value) _ _
    c.if-g-ne-NO_BIT.false c.write_value.ensures
