-- A program that is found is one of at most 16, so its scope is exact; in that scope the tag is looked for as in the definition.
use mathlib.Core.Path.{sym, ◌∙◌}
use Prim.Native.Nat.{◌<◌}
use Rattle.std.proofs.Common.{rules}
use Rattle.model.specs.Tables.{tables_of}
use Rattle.resolve.specs.Starts.{start_tables}
use Rattle.resolve.proofs.Rows.{found_some}
use Rattle.resolve.proofs.Starting.{program_few, program_found}
use Rattle.resolve.proofs.start.in_program.Goals as goal

pub program_scope-requires : goal.program_scope-requires
program_scope-requires c =
    let s = sym c.find_program.ensures ∙ found_some _ _ _ _ c.ok_or.ensures.value c.in_ok-k.was in
    let few : c.in_ok-k.k < 16 = program_few (tables_of c.args.c.now.tables) c.args.name.now c.in_ok-k.k c.requires s in
    search rules

pub returns : goal.returns
returns c = λ o.
    let s = sym c.find_program.ensures ∙ found_some _ _ _ _ c.ok_or.ensures.value c.in_ok-k.was in
    program_found (start_tables (tables_of c.args.c.now.tables) o) _ c.args.name.now _ _ _ _ s c.program_scope.ensures (c.in_scope.ensures o)
