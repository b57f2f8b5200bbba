-- The chain answers as the library's law of it says, which is the definition's.
use Rattle.std.proofs.Common.{rules, tests}
use Rattle.laws.proofs.Chains.{all_slice}
use Rattle.std.specs.Prelude.{leb}
use Rattle.laws.specs.Pick.{both}
use Rattle.definition.specs.Breach.{name_bytes}
use Rattle.rows.proofs.row.name_bytes.Goals as goal

pub returns : goal.returns
unfolding name_bytes
returns c =
    all_slice (λ b. both (leb 0x20 b) (leb b 0x7E)) c.args.name.now c.all.ensures.ran (cc) (λ x b q k. search (rules, tests))
