-- A path that decodes has a segment wherever it does not end.
use mathlib.Core.Path.{sym, ◌∙◌}
use lib.Dec.{leb}
use lib.ListN.{length}
use borrow.Author.Tests.{leb-true, leb-false}
use Rattle.laws.proofs.Chain.{by_test}
use Rattle.resolve.proofs.Lefts.{left_end, left_open}
use Rattle.resolve.proofs.rest.Rest.is_empty.Goals as goal

pub returns : goal.returns
returns c =
    let r = c.args.self in
    by_test (leb (length r.path.now) r.at) (λ t. rw (t, left_end r (leb-true _ _ t)))
    (λ t. t ∙ sym (left_open r (leb-false _ _ t)))
