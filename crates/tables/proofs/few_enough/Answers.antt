-- Each table has at most as many rows as it may have, in the definition's order.
use Rattle.std.specs.Prelude.{leb}
use Rattle.std.proofs.Common.{rules, tests, length, ◌∙◌}
use Rattle.laws.proofs.Chains.{all_slice}
use Rattle.model.specs.Tables.{tables_of}
use Rattle.tables.specs.Rules.{count_in, limit_of}
use Rattle.tables.specs.declared.rules.Table.{Table}
use Rattle.tables.specs.declared.TheConstants.{TABLES}
use Rattle.tables.proofs.Facts.{few}
use Rattle.tables.proofs.few_enough.Goals as goal

pub returns : goal.returns
returns c =
    let p = λ (x : Table). leb (count_in x (tables_of c.args.t.now) (length c.args.memory.now)) (limit_of x) in
    all_slice p TABLES c.all.ensures.ran (cc) (λ x b q k. search (rules, tests))
    ∙ few (tables_of c.args.t.now) (length c.args.memory.now)
