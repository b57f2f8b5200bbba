-- What is told is what `row_breach` tells first of the other table's rows, one after the other.
use Rattle.std.specs.Prelude.{refl}
use Rattle.std.proofs.Common.{rules, length}
use Rattle.std.proofs.lemmas.Iterator.{YieldsList-from_range}
use Rattle.laws.proofs.Mapped.{first_mapped}
use Rattle.model.specs.Tables.{tables_of}
use Rattle.definition.specs.Breach.{row_breach}
use Rattle.tables.specs.Rules.{told_of, breach_of}
use Rattle.tables.specs.Tests.{test_of}
use Rattle.tables.proofs.Steps.{others_told}
use Rattle.tables.proofs.test.Test.breach.Goals as goal

pub returns : goal.returns
returns c =
    let x = test_of c.args.self (tables_of c.args.t.now) (length c.args.memory.now) in
    others_told x _ _ c.others.ensures
    (first_mapped (row_breach x) told_of breach_of c.find_map.ensures.runs (YieldsList-from_range 0 c.others.result _ refl refl)
    (λ i o q k. search rules) refl (λ b. refl))
