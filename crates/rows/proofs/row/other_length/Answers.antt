-- A name of 1 to 40 bytes, or one of at most 40 behind some prefix.
use Rattle.std.specs.Prelude.{refl}
use Rattle.laws.specs.Tests.{some_of}
use Rattle.std.proofs.Common.{rules, tests, ◌∙◌, ap}
use Rattle.laws.proofs.Chains.{any_slice}
use Rattle.rows.proofs.Laws.{other_length_by, behind}
use Rattle.rows.proofs.row.other_length.Goals as goal

pub returns-then-name_length : goal.returns-then-name_length
returns-then-name_length c = rw other_length_by (rw (← c.name_length.ensures, c.if-name_length.true) refl)

pub returns-else-name_length : goal.returns-else-name_length
unfolding some_of
returns-else-name_length c =
    let rest = c.iter.result.rest.now in
    let any = any_slice (λ p. behind c.args.name.now p.now) rest c.any.ensures.ran (cc) (λ x b q k. search (rules, tests)) in
    rw (other_length_by, ← c.name_length.ensures, c.if-name_length.false) (any ∙ ap (some_of (λ p. behind c.args.name.now p.now)) c.iter.ensures.rest)
