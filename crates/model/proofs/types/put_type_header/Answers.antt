-- Atomic or a structure; the writes lie next to each other and make up the header, as a handle's low 16 bits give the same bytes.
use Rattle.model.proofs.Laws.{headers}
use Rattle.model.proofs.types.put_type_header.Goals as goal

pub returns : goal.returns
returns c =
    let h = rw c.index_of.ensures at c.structure_handle.ensures in
    search headers
