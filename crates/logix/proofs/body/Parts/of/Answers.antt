-- Without the count or all offsets the definition has no parts; else it has them just where the offsets are in order.
use mathlib.Core.Path.{◌∙◌}
use Rattle.logix.proofs.Offsets.{none_read, pairs_counted, pairs_read, pairs_order}
use Rattle.logix.proofs.body.Parts.of.Goals as goal

pub returns-in_err-offsets : goal.returns-in_err-offsets
returns-in_err-offsets c = rw c.from_residual.ensures (none_read _ c.in_err-offsets.ensures)

pub returns-then-not-in_order : goal.returns-then-not-in_order
returns-then-not-in_order c = pairs_order _ _ c.in_ok-offsets.ensures _ c.in_order.ensures ∙ c.if-not-in_order.true

pub invariant_of-result : goal.invariant_of-result
invariant_of-result c = record {
  there = pairs_order _ _ c.in_ok-offsets.ensures _ c.in_order.ensures ∙ c.if-not-in_order.false;
  counted = pairs_counted _ _ c.in_ok-offsets.ensures;
  read = pairs_read _ _ c.in_ok-offsets.ensures;
}
