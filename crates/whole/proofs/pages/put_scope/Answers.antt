-- Segment byte, length and name are put one behind the other, with a pad behind an odd name; without a name nothing is put.
use Rattle.std.proofs.Common.{rules, arith, refl}
use Rattle.whole.proofs.Asking.{scope-none, scope_put_even, scope_put_odd}
use Rattle.whole.proofs.pages.put_scope.Goals as goal

pub returns-then-is_empty : goal.returns-then-is_empty
returns-then-is_empty c = scope-none _ _ (search rules)

pub returns-then-program-eq1 : goal.returns-then-program-eq1
returns-then-program-eq1 c =
    scope_put_odd _ _ _ _ _ _ c.requires.0 c.requires.1 (search rules) c.put_u8.ensures c.put_u8-2.ensures refl c.copy_into.ensures _
    (λ h. omega (arith, h, c.if-program-eq1.true)) c.put_u8-then-program-eq1.ensures

pub returns-else-program-eq1 : goal.returns-else-program-eq1
returns-else-program-eq1 c =
    scope_put_even _ _ _ _ _ _ c.requires.0 c.requires.1 (search rules) c.put_u8.ensures c.put_u8-2.ensures refl c.copy_into.ensures
    (omega (arith, c.if-program-eq1.false))
