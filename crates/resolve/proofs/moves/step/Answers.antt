-- A run of elements is one move, a name is one, any other segment strays; a move keeps the place in its tag and leaves fewer segments.
use mathlib.Core.Path.{subst}
use Rattle.std.specs.Prelude.{Some}
use Rattle.std.proofs.lemmas.Result.{err_from_is_err_and}
use Rattle.model.specs.Tables.{tables_of}
use Rattle.resolve.specs.Paths.{left, FirstSegment}
use Rattle.resolve.proofs.Rows.{found_some}
use Rattle.resolve.proofs.Stepping.{standing_bounded, standing_start, step-other, step_symbol, step-symbol_turned, step_element, step-element_turned}
use Rattle.resolve.proofs.moves.step.Goals as goal
use Rattle.resolve.proofs.moves.step.Goals.{In_ok-segment}

-- the path's segments start with the one that was read
leads : (c : In_ok-segment) → FirstSegment (left c.args.rest) (Some (c.in_ok-segment.segment, c.in_ok-segment.next))
leads c = subst (FirstSegment (left c.args.rest)) (found_some _ _ _ _ c.ok_or.ensures.value c.in_ok-segment.was) c.segment.ensures

pub index-requires : goal.index-requires
index-requires c = standing_bounded (tables_of c.args.c.now.tables) c.args.g c.requires.1

pub member_of-requires : goal.member_of-requires
member_of-requires c = standing_start (tables_of c.args.c.now.tables) c.args.g c.requires.1

pub returns-in_err-to-in-Element : goal.returns-in_err-to-in-Element
returns-in_err-to-in-Element c =
    let first = leads (goal.at.returns-in_err-to-in-Element c).In_ok-segment in
    let p = err_from_is_err_and c.from_residual-in_err-to-in-Element.result c.from_residual-in_err-to-in-Element.ensures.1 in
    rw (p.1, p.2)
    (step-element_turned _ _ _ c.args.g _ _ (rw c.in-Element.is at first) c.of-run.result c.of-run.ensures c.index.result c.index.ensures.listed _
    c.in_err-to-in-Element.was)

pub returns-in_err-to-in-Symbol : goal.returns-in_err-to-in-Symbol
returns-in_err-to-in-Symbol c =
    let first = leads (goal.at.returns-in_err-to-in-Symbol c).In_ok-segment in
    let p = err_from_is_err_and c.from_residual-in_err-to-in-Symbol.result c.from_residual-in_err-to-in-Symbol.ensures.1 in
    rw (p.1, p.2) (step-symbol_turned _ _ _ c.args.g _ c.in_ok-segment.next (rw c.in-Symbol.is at first) _ c.in_err-to-in-Symbol.ensures)

pub returns-in_ok-to-in-Element : goal.returns-in_ok-to-in-Element
returns-in_ok-to-in-Element c =
    let first = leads (goal.at.returns-in_ok-to-in-Element c).In_ok-segment in
    step_element _ _ _ c.args.g _ _ (rw c.in-Element.is at first) c.of-run.result c.of-run.ensures c.index.result c.index.ensures.listed c.requires.1
    c.in_ok-to-in-Element.to c.in_ok-to-in-Element.was

pub returns-in_ok-to-in-Symbol : goal.returns-in_ok-to-in-Symbol
returns-in_ok-to-in-Symbol c =
    let first = leads (goal.at.returns-in_ok-to-in-Symbol c).In_ok-segment in
    step_symbol _ _ _ c.args.g _ c.in_ok-segment.next (rw c.in-Symbol.is at first) c.requires.1 c.in_ok-to-in-Symbol.to c.in_ok-to-in-Symbol.ensures

pub returns-in_default : goal.returns-in_default
returns-in_default c =
    let first = leads (goal.at.returns-in_default c).In_ok-segment in
    step-other _ _ _ c.args.g _ _ first c.in_default.not-Element c.in_default.not-Symbol
