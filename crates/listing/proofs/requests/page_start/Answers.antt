-- Behind a name, the rest is read in the scope of the program that it means, if any; without one, all of the path in scope 0.
use Rattle.std.proofs.Common.{add-one, rules}
use Rattle.path.proofs.Segments.{found_at}
use Rattle.model.specs.Tables.{tables_of}
use Rattle.listing.proofs.Found.{program_inside}
use Rattle.listing.proofs.Starts.{behind_name, named_known, named-unknown, start-empty, start_plain}
use Rattle.listing.proofs.requests.page_start.Goals as goal

pub returns-in_err-first : goal.returns-in_err-first
returns-in_err-first c = rw c.from_residual.ensures (start-empty (tables_of c.args.t.now) _ c.in_err-first.ensures.is)

pub returns-in_default : goal.returns-in_default
returns-in_default c = start_plain (tables_of c.args.t.now) _ _ c.start_in.ensures _ _ c.in_ok-first.ensures.is c.in_default.not-Symbol

pub returns-in_err-program : goal.returns-in_err-program
returns-in_err-program c =
    let first = found_at _ _ _ _ _ c.in_ok-first.ensures.is c.in-Symbol.is in
    rw c.from_residual-in_err-program.ensures (named-unknown (tables_of c.args.t.now) _ _ _ first c.in_err-program.ensures)

pub program_scope-requires : goal.program_scope-requires
program_scope-requires c =
    let h = program_inside (tables_of c.args.t.now) _ _ c.in_ok-program.ensures in
    let k = c.requires in
    search rules

pub start_in-requires-2 : goal.start_in-requires-2
start_in-requires-2 c = behind_name (tables_of c.args.t.now) _ _ _ (found_at _ _ _ _ _ c.in_ok-first.ensures.is c.in-Symbol.is) c.args.q.now.decodes

pub returns : goal.returns
returns c =
    let first = found_at _ _ _ _ _ c.in_ok-first.ensures.is c.in-Symbol.is in
    named_known (tables_of c.args.t.now) _ _ _ first _ _ c.in_ok-program.ensures (rw (c.program_scope.ensures, add-one) at c.start_in-2.ensures)
