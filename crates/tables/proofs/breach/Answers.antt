-- Of valid tables the definition tells nothing; else what is told is what the tests tell first, one after the other.
use Rattle.std.specs.Prelude.{refl}
use Rattle.std.proofs.Common.{rules, length, sym, ◌∙◌}
use Rattle.std.proofs.lemmas.Iterator.{YieldsList-from_slice}
use Rattle.laws.proofs.Mapped.{first_mapped}
use Rattle.model.specs.Tables.{tables_of}
use Rattle.definition.specs.Breach.{test_breach}
use Rattle.definition.proofs.Breaches.{none_exactly_where_valid}
use Rattle.tables.specs.Rules.{told_of, breach_of}
use Rattle.tables.specs.declared.test.TheConstants.{TESTS}
use Rattle.tables.specs.Tests.{test_of}
use Rattle.tables.proofs.Facts.{tests_told}
use Rattle.tables.proofs.breach.Goals as goal

pub returns-then-valid : goal.returns-then-valid
returns-then-valid c = sym ((none_exactly_where_valid _ _).1 (sym c.valid.ensures ∙ c.if-valid.true))

pub returns : goal.returns
returns c =
    let t = tables_of c.args.t.now in
    let memory = length c.args.memory.now in
    first_mapped (λ x. test_breach (test_of x t memory)) told_of breach_of c.find_map.ensures.runs (YieldsList-from_slice TESTS (cc))
    (λ x o q k. search rules) refl (λ b. refl) ∙ tests_told t memory
