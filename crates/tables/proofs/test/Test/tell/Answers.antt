-- The rule, the table and the other table are the test's; where there is no other row, i is 0.
use Rattle.std.proofs.Common.{rules}
use Rattle.tables.proofs.Facts.{tells}
use Rattle.tables.proofs.test.Test.tell.Goals as goal

pub returns : goal.returns
returns c t memory h =
    tells _ _ _ _ _ _ c.rule.ensures c.table.ensures c.other.ensures c.map.ensures.cases (λ x p q. search rules) h
