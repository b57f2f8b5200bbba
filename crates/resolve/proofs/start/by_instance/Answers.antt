-- The object that the path starts with, then the tests of class, flags and ID in the definition's order.
use mathlib.Core.Path.{sym, subst}
use Rattle.model.specs.Tables.{tables_of}
use Rattle.resolve.specs.Paths.{left, FirstObject}
use Rattle.resolve.specs.Starts.{start_tables}
use Rattle.resolve.proofs.Rows.{found_some}
use Rattle.resolve.proofs.Starting.{numbered-on}
use Rattle.resolve.proofs.start.by_instance.Goals as goal

pub returns : goal.returns
returns c = λ o.
    let t = start_tables (tables_of c.args.c.now.tables) o in
    let s = found_some _ _ _ _ c.ok_or.ensures.value c.in_ok-object.was in
    rw (c.found_at.ensures, c.find_id-tag.ensures)
    (numbered-on t _ c.args.scope _ c.in_ok-object.object c.in_ok-object.next (subst (FirstObject (left c.args.rest)) s c.object.ensures)
    c.if-object-ne-SYMBOL_CLASS.false (sym c.if-not-takes_instances.ensures))
