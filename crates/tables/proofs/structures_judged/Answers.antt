-- The chain answers as the library's law of it says, which is the definition's.
use Rattle.std.proofs.Common.{rules, tests, length}
use Rattle.std.proofs.lemmas.Iterator.{YieldsList-from_slice}
use Rattle.std.proofs.lemmas.Iterator.Consumers.{YieldsList-from_enumerate}
use Rattle.std.proofs.lemmas.Iterator.Search.{all_from_yields_List}
use Rattle.laws.proofs.Chains.{all_is}
use Rattle.rows.specs.Judged.{structure_judged}
use Rattle.tables.proofs.Facts.{every_counted}
use Rattle.tables.proofs.structures_judged.Goals as goal

pub returns : goal.returns
returns c =
    let t = c.args.t.now in
    every_counted (structure_judged t.structures.now t.members.now t.names.now (length t.templates.now)) _ _ (all_is _ _ _
    (all_from_yields_List _ _ _ _ c.all.ensures.ran (YieldsList-from_enumerate (YieldsList-from_slice t.structures.now cc) cc)
    (λ x b q k. search (rules, tests))))
