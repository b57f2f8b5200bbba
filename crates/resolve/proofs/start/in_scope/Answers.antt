-- By the first segment as in the definition, in whatever tables with the lent ones among them; a tag that is found is a row.
use mathlib.Core.Path.{subst}
use Rattle.std.proofs.lemmas.Result.{err_from_is_err_and}
use Rattle.model.specs.Tables.{tables_of}
use Rattle.resolve.specs.Paths.{left, FirstSegment}
use Rattle.resolve.specs.Starts.{start_tables}
use Rattle.resolve.proofs.Rows.{found_none, found_some}
use Rattle.resolve.proofs.Starting.{scope_named, scope-empty, scope-other}
use Rattle.resolve.proofs.start.in_scope.Goals as goal

pub returns-in_err-first : goal.returns-in_err-first
returns-in_err-first c = λ o.
    let t = start_tables (tables_of c.args.c.now.tables) o in
    let p = err_from_is_err_and c.from_residual.result c.from_residual.ensures.1 in
    let n = found_none _ _ _ _ c.ok_or.ensures.value c.in_err-first.was in
    rw (p.1, p.2, n.1) (scope-empty t _ _ _ (subst (FirstSegment (left c.args.rest)) n.0 c.segment.ensures))

pub returns-in-Symbol : goal.returns-in-Symbol
returns-in-Symbol c = λ o.
    let t = start_tables (tables_of c.args.c.now.tables) o in
    let s = found_some _ _ _ _ c.ok_or.ensures.value c.in_ok-first.was in
    let first = subst (FirstSegment (left c.args.rest)) s c.segment.ensures in
    rw (c.found_at.ensures, c.find_tag-tag.ensures) (scope_named t _ _ _ _ _ (rw c.in-Symbol.is at first))

pub returns-in_default : goal.returns-in_default
returns-in_default c = λ o.
    let t = start_tables (tables_of c.args.c.now.tables) o in
    let s = found_some _ _ _ _ c.ok_or.ensures.value c.in_ok-first.was in
    scope-other t _ _ _ _ _ (subst (FirstSegment (left c.args.rest)) s c.segment.ensures) c.in_default.not-Symbol _
    (c.by_instance.ensures o)
