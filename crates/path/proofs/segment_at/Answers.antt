-- What the first byte begins is the table's entry, and what follows it is read as in the definition; past the path's end nothing stands.
use mathlib.Core.Path.{◌≡◌, sym, ap, ◌∙◌}
use Rattle.std.specs.Prelude.{Some, get_or}
use Rattle.laws.specs.Pick.{pick}
use Rattle.definition.specs.Segment.{symbol}
use Rattle.path.specs.First.{first_of, logical_of}
use Rattle.path.specs.Paths.{step_of, value_step, name_step, link_end}
use borrow.Author.Tests.{ltb-false}
use Prim.Native.Nat.{ℕ, ◌+◌}
use Rattle.path.proofs.Decoding.{decoded}
use Rattle.path.proofs.Forward.{past_end, first-none, first-port, first-logical, first-symbol}
use Rattle.path.proofs.segment_at.Goals as goal
use Rattle.path.proofs.segment_at.Goals.{then-numbered, else-numbered, In_ok-first}

-- what the table has at the first byte
read : (c : In_ok-first) → first_of (get_or c.args.path.now c.args.at 0) ≡ Some c.in_ok-first.first
read c = ap first_of (sym (c.in_ok-get.ensures.lookup.3.1 0)) ∙ sym c.first_of.ensures ∙ c.in_ok-first.was

pub returns-in_err-get : goal.returns-in_err-get
returns-in_err-get c =
    decoded _ _ _
    (ap step_of c.from_residual.ensures ∙ sym (past_end _ _ (ltb-false _ _ (sym c.in_err-get.ensures.lookup.0))))

pub returns-in_err-first : goal.returns-in_err-first
returns-in_err-first c =
    decoded _ _ _
    (let e = ap first_of (sym (c.in_ok-get.ensures.lookup.3.1 0)) ∙ sym c.first_of.ensures ∙ c.in_err-first.was in
    ap step_of c.from_residual-in_err-first.ensures ∙ sym (first-none _ _ e))

pub returns-in_err-next-in-Port : goal.returns-in_err-next-in-Port
returns-in_err-next-in-Port c =
    decoded _ _ _
    (let e = read (goal.at.returns-in_err-next-in-Port c).In_ok-first ∙ ap Some c.in-Port.is in
    let behind = c.args.at + 1 in
    let link : c.if-numbered.link ≡ pick c.in-Port.numbered (behind + 2) behind =
    elim c.if-numbered.branch [ then-numbered w ↦ rw w.if-numbered.true w.link-is | else-numbered w ↦ rw w.if-numbered.false w.link-is ] in
    ap step_of c.from_residual-in_err-next-in-Port.ensures ∙ c.in_err-next-in-Port.ensures
    ∙ ap (λ (p : ℕ). link_end c.args.path.now p c.in-Port.sized) link ∙ sym (first-port _ _ _ _ e))

pub returns-in_err-value-in-Logical : goal.returns-in_err-value-in-Logical
returns-in_err-value-in-Logical c =
    decoded _ _ _
    (let e = read (goal.at.returns-in_err-value-in-Logical c).In_ok-first ∙ ap Some c.in-Logical.is in
    let make = logical_of c.in-Logical.logical in
    ap step_of c.from_residual-in_err-value-in-Logical.ensures ∙ ap (value_step make) (sym c.in_err-value-in-Logical.was)
    ∙ c.value_at.ensures make ∙ sym (first-logical _ _ _ _ e))

pub returns-in_err-name-in-Symbol : goal.returns-in_err-name-in-Symbol
returns-in_err-name-in-Symbol c =
    decoded _ _ _
    (let e = read (goal.at.returns-in_err-name-in-Symbol c).In_ok-first ∙ ap Some c.in-Symbol.is in
    ap step_of c.from_residual-in_err-name-in-Symbol.ensures ∙ ap (name_step symbol) (sym c.in_err-name-in-Symbol.was)
    ∙ c.sized_at.ensures symbol ∙ sym (first-symbol _ _ e))

pub returns-in_ok-next-in-Port : goal.returns-in_ok-next-in-Port
returns-in_ok-next-in-Port c =
    decoded _ _ _
    (let e = read (goal.at.returns-in_ok-next-in-Port c).In_ok-first ∙ ap Some c.in-Port.is in
    let behind = c.args.at + 1 in
    let link : c.if-numbered.link ≡ pick c.in-Port.numbered (behind + 2) behind =
    elim c.if-numbered.branch [ then-numbered w ↦ rw w.if-numbered.true w.link-is | else-numbered w ↦ rw w.if-numbered.false w.link-is ] in
    c.in_ok-next-in-Port.ensures ∙ ap (λ (p : ℕ). link_end c.args.path.now p c.in-Port.sized) link ∙ sym (first-port _ _ _ _ e))

pub returns-in_ok-value-in-Logical : goal.returns-in_ok-value-in-Logical
returns-in_ok-value-in-Logical c =
    decoded _ _ _
    (let e = read (goal.at.returns-in_ok-value-in-Logical c).In_ok-first ∙ ap Some c.in-Logical.is in
    let make = logical_of c.in-Logical.logical in
    rw c.logical_segment.ensures
    (ap (value_step make) (sym c.in_ok-value-in-Logical.was) ∙ c.value_at.ensures make ∙ sym (first-logical _ _ _ _ e)))

pub returns-in_ok-name-in-Symbol : goal.returns-in_ok-name-in-Symbol
returns-in_ok-name-in-Symbol c =
    decoded _ _ _
    (let e = read (goal.at.returns-in_ok-name-in-Symbol c).In_ok-first ∙ ap Some c.in-Symbol.is in
    ap (name_step symbol) (sym c.in_ok-name-in-Symbol.was) ∙ c.sized_at.ensures symbol ∙ sym (first-symbol _ _ e))
