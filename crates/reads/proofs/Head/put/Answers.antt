-- Without an extended word the header has four bytes; type header and data, put right behind it, make up the reply.
use Rattle.reads.proofs.Reading.{fragment_put}
use Rattle.reads.proofs.Head.put.Goals as goal

pub returns : goal.returns
returns c =
    fragment_put _ _ _ _ _ _ _ _ _ _ _ c.requires.0 c.requires.2 c.put_header-used.ensures c.put_type_header.ensures
    c.copy_into.ensures
