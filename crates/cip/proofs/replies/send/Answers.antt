-- A header without an extended word has four bytes; the data, put right behind it, make up the reply, which has room.
use Rattle.cip.proofs.Capped.{sent}
use Rattle.cip.proofs.replies.send.Goals as goal

pub returns : goal.returns
returns c =
    sent _ _ _ _ _ _ _ _ _ _ c.requires.2 c.put_header.ensures c.copy_into.ensures c.finish.ensures.0
    c.finish.ensures.1 c.requires.0 c.requires.1
