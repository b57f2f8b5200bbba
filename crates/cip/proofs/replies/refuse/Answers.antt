-- A refusal without an extended word has four bytes, so it exceeds the limit just where the limit is below four.
use Rattle.cip.proofs.Capped.{refused-large, refused_well}
use Rattle.cip.proofs.replies.refuse.Goals as goal

pub returns-then-limit-lt-HEADER : goal.returns-then-limit-lt-HEADER
returns-then-limit-lt-HEADER c = refused-large _ _ _ _ _ _ c.requires.1 c.if-limit-lt-HEADER.true c.fail.ensures

pub returns : goal.returns
returns c = refused_well _ _ _ _ _ _ c.requires.1 c.if-limit-lt-HEADER.false c.fail-2.ensures
