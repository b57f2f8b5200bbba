-- Each field stands where the definition has it, if all of them are there.
use mathlib.Core.Path.{◌≡◌, ◌∙◌}
use lib.ListN.{length, drop}
use borrow.Author.Tests.{le-ltb}
use Rattle.std.proofs.lemmas.List.{take_rest}
use Rattle.definition.specs.Write.{fields_of, fields_size}
use Rattle.writes.proofs.Storing.{offset_or_zero}
use Rattle.writes.proofs.values.fields_of.Goals as goal

pub returns-clause-fields : goal.returns-clause-fields
unfolding fields_of
returns-clause-fields c =
    let found = c.in_ok-value.ensures.lookup.0 in
    let there = found.0 in
    let value : c.in_ok-value.value.now ≡ drop (fields_size c.args.service c.args.body.now) c.args.body.now =
    rw (← c.type_size-at.ensures, ← c.offset_size.ensures) (found.2 ∙ take_rest c.args.body.now _) in
    rw (
      le-ltb (length c.args.body.now) (fields_size c.args.service c.args.body.now) (rw (← c.type_size-at.ensures, ← c.offset_size.ensures) there),
      c.from.ensures,
      c.u16_at.ensures,
      c.from-2.ensures,
      c.u16_at-2.ensures,
      c.from-3.ensures,
      c.u16_at-3.ensures,
      c.offset_at.ensures,
      offset_or_zero,
      c.type_size-at.ensures,
      value,
    )
