-- The tag found is a row, whose whole stands in its tag; the walk from there is the definition's, whatever the other tables are.
use Rattle.std.proofs.lemmas.Result.{err_from_is_err_and}
use Rattle.model.specs.Tables.{tables_of, flags_of}
use Rattle.resolve.proofs.Answering.{tabled_programs, tabled_elements, tabled_standing, resolve-turned, resolve-away, resolve_found}
use Rattle.resolve.proofs.resolve.Goals as goal

pub tag_of-requires : goal.tag_of-requires
tag_of-requires c = tabled_programs (tables_of c.args.c.now.tables) c.requires.1

pub returns-in_err-start : goal.returns-in_err-start
returns-in_err-start c =
    let p = err_from_is_err_and c.from_residual.result c.from_residual.ensures.1 in
    rw (p.1, p.2) (resolve-turned _ _ _ _ c.of.ensures _ c.in_err-start.ensures.lent)

pub of_tag-whole-requires : goal.of_tag-whole-requires
of_tag-whole-requires c = tabled_elements (tables_of c.args.c.now.tables) c.requires.1 _ c.in_ok-start.ensures.lent.inside

pub follow-requires : goal.follow-requires
follow-requires c =
    tabled_standing _ c.requires.1 _ c.in_ok-start.ensures.lent.inside (flags_of c.args.c.now.flags) c.of_tag-whole.result c.of_tag-whole.ensures

pub returns-in_err-place : goal.returns-in_err-place
returns-in_err-place c =
    let p = err_from_is_err_and c.from_residual-in_err-place.result c.from_residual-in_err-place.ensures.1 in
    rw (p.1, p.2)
    (resolve-away _ _ _ _ c.of.ensures _ c.in_ok-start.ensures.lent c.of_tag-whole.result c.of_tag-whole.ensures c.follow.result c.follow.ensures _
    c.in_err-place.was)

pub returns : goal.returns
returns c =
    resolve_found _ _ _ _ c.of.ensures _ c.in_ok-start.ensures.lent c.of_tag-whole.result c.of_tag-whole.ensures c.follow.result c.follow.ensures
    c.in_ok-place.place c.target.result c.in_ok-place.was c.target.ensures
