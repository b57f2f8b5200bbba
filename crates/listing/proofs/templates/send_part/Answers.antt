-- All that is due, nothing or as much as fits, by the tests of the statement.
use Rattle.std.proofs.Common.{◌∙◌, sym}
use Rattle.listing.proofs.Sent.{sent-all, sent-none, sent-some}
use Rattle.listing.proofs.templates.send_part.Goals as goal

pub returns-then-due-space : goal.returns-then-due-space
returns-then-due-space c = sent-all _ _ _ _ _ _ (rw c.space_of-space.ensures at c.if-due-space.true) c.send.ensures

pub returns-then-space-eq0 : goal.returns-then-space-eq0
returns-then-space-eq0 c =
    sent-none _ _ _ _ _ _ (rw c.space_of-space.ensures at c.if-due-space.false) (sym c.space_of-space.ensures ∙ c.if-space-eq0.true) c.fail.ensures

pub returns : goal.returns
returns c =
    sent-some _ _ _ _ _ _ (rw c.space_of-space.ensures at c.if-due-space.false) (λ e. c.if-space-eq0.false (c.space_of-space.ensures ∙ e))
    (rw c.space_of-space.ensures at c.send-2.ensures)
