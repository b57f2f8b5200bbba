-- A header without an extended word has four bytes, so it fills the place before the data and leaves these as they are.
use Rattle.listing.proofs.Filled.{closed}
use Rattle.listing.proofs.pages.close.Goals as goal

pub returns : goal.returns
returns c =
    closed _ _ _ _ _ c.requires.3 c.requires.0 c.requires.1 c.requires.2 _ _ _ _ c.put_header.ensures c.finish.ensures.0
    c.finish.ensures.1
