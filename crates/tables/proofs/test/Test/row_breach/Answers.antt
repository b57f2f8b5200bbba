-- The first row at which the test does not hold is told, as the definition tells it.
use Rattle.std.specs.Prelude.{refl, not}
use Rattle.std.proofs.Common.{rules, tests, length}
use Rattle.std.proofs.lemmas.Iterator.{YieldsList-from_range}
use Rattle.std.proofs.lemmas.Iterator.Search.{find_from_yields_List}
use Rattle.model.specs.Tables.{tables_of}
use Rattle.tables.specs.Tests.{test_of}
use Rattle.tables.proofs.Steps.{rows_told}
use Rattle.tables.proofs.test.Test.row_breach.Goals as goal

pub returns : goal.returns
returns c =
    let x = test_of c.args.self (tables_of c.args.t.now) (length c.args.memory.now) in
    rows_told x c.args.i _ _ c.find.result _ c.span.ensures.start c.span.ensures.end
    (find_from_yields_List (λ j. not (x.holds c.args.i j)) _ _ _ c.find.ensures.ran (YieldsList-from_range c.span.result.start c.span.result.end _ refl refl)
    (λ j b q k. search (rules, tests))) c.map.ensures.cases (λ j b q. search rules)
