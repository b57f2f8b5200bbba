-- The definition's three conditions one by one; with all of them the first member of this name, if there is one, is looked at.
use mathlib.Core.Path.{sym, ◌∙◌}
use Prim.Native.Nat.{◌<◌}
use lib.ListN.{length}
use Rattle.std.proofs.Common.{rules}
use Rattle.std.proofs.lemmas.Result.{err_from_is_err_and}
use Rattle.resolve.proofs.Rows.{found_none, found_some, member-inside, member_flat, member_open, member-bit, member_none, member_at}
use Rattle.resolve.proofs.members.member_of.Goals as goal
use Rattle.resolve.proofs.members.member_of.Goals.{then-not-is_structure-via-then-not-is_structure, then-not-is_structure-via-else-not-is_structure+then-g-ne0, then-not-is_structure-via-else-not-is_structure+else-g-ne0+then-g-ne-NO_BIT}

pub returns-then-not-is_structure : goal.returns-then-not-is_structure
returns-then-not-is_structure c =
    elim c.then-not-is_structure.branch [
      | then-not-is_structure-via-then-not-is_structure w ↦ member_flat _ _ _ c.args.g (sym w.if-not-is_structure.ensures)
      | then-not-is_structure-via-else-not-is_structure+then-g-ne0 w ↦ member_open _ _ _ c.args.g w.if-g-ne0.true
      | then-not-is_structure-via-else-not-is_structure+else-g-ne0+then-g-ne-NO_BIT w ↦ member-bit _ _ _ c.args.g w.if-g-ne-NO_BIT.true
    ]

pub returns-in_err-i : goal.returns-in_err-i
returns-in_err-i c =
    let p = err_from_is_err_and c.from_residual.result c.from_residual.ensures.1 in
    let n = found_none _ _ _ _ c.ok_or.ensures.value c.in_err-i.was in
    let e = rw c.members_of-members.ensures at (sym c.find_member.ensures ∙ n.0) in
    rw (p.1, p.2, n.1) (member_none _ _ _ c.args.g (sym c.if-not-is_structure.ensures) c.if-g-ne0.false c.if-g-ne-NO_BIT.false e)

pub offset_bounds-members-i : goal.offset_bounds-members-i
offset_bounds-members-i c =
    let e = sym c.find_member.ensures ∙ found_some _ _ _ _ c.ok_or.ensures.value c.in_ok-i.was in
    let within : c.in_ok-i.i < length c.members_of-members.result.now = member-inside _ _ _ _ e in
    search rules

pub bounds-members-i : goal.bounds-members-i
bounds-members-i c = member-inside _ _ _ _ (sym c.find_member.ensures ∙ found_some _ _ _ _ c.ok_or.ensures.value c.in_ok-i.was)

pub returns : goal.returns
returns c =
    let e = rw c.members_of-members.ensures at (sym c.find_member.ensures ∙ found_some _ _ _ _ c.ok_or.ensures.value c.in_ok-i.was) in
    c.visible_member.ensures
    ∙ rw c.members_of-members.ensures
    (member_at _ _ _ c.args.g (sym c.if-not-is_structure.ensures) c.if-g-ne0.false c.if-g-ne-NO_BIT.false _ e)
