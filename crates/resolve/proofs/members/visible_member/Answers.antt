-- One test, the definition's; behind it the member's place is its target.
use borrow.Author.Tests.{eq-eqb, ne_eqb}
use Rattle.laws.proofs.Tests.{both-none}
use Rattle.definition.specs.Resolve.{visible_member}
use Rattle.resolve.proofs.members.visible_member.Goals as goal
use Rattle.resolve.proofs.members.visible_member.Goals.{else-row-eq1-via-then-row-eq1+else-flags, else-row-eq1-via-else-row-eq1}

pub returns-then-flags : goal.returns-then-flags
unfolding visible_member
returns-then-flags c = rw (eq-eqb _ _ c.if-row-eq1.true, c.if-flags.true)

pub returns : goal.returns
unfolding visible_member
returns c =
    elim c.else-row-eq1.branch [
      | else-row-eq1-via-then-row-eq1+else-flags w ↦ rw (w.if-flags.false, both-none, c.member.ensures)
      | else-row-eq1-via-else-row-eq1 w ↦ rw (ne_eqb _ _ w.if-row-eq1.false, c.member.ensures)
    ]
