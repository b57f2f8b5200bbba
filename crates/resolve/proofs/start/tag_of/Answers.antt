-- With a program's name or without it, what was found there is what the definition finds: in whatever tables, and so in the lent ones.
use Rattle.definition.specs.Tables.{Tables}
use Rattle.model.specs.Tables.{tables_of, flags_of}
use Rattle.resolve.specs.Starts.{start_tables}
use Rattle.resolve.proofs.start.tag_of.Goals as goal

pub returns-in-Some : goal.returns-in-Some
returns-in-Some c =
    let t = tables_of c.args.c.now.tables in
    let all = λ (o : Tables). rw (c.in-Some.ensures (start_tables t o) (flags_of c.args.c.now.flags)) at (c.in_program.ensures o) in
    record { lent = all t; whatever = all }

pub returns-in-None : goal.returns-in-None
returns-in-None c =
    let t = tables_of c.args.c.now.tables in
    let all = λ (o : Tables). rw (c.in-None.ensures (start_tables t o) (flags_of c.args.c.now.flags)) at (c.in_scope.ensures o) in
    record { lent = all t; whatever = all }
