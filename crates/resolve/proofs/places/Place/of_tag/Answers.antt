-- The row's lengths without zeros are those that indexes are held against, the second of its shapes; the other fields are the row's own.
use Rattle.std.proofs.Common.{ap, get_or, List, [], ℕ}
use Rattle.model.specs.Shapes.{shapes_of}
use Rattle.resolve.specs.Places.{whole_row}
use Rattle.resolve.proofs.Answering.{whole_lengths}
use Rattle.resolve.proofs.places.Place.of_tag.Goals as goal

pub returns : goal.returns
unfolding whole_row shapes_of
returns c = rw (whole_lengths c.args.row.now _ c.requires (ap (λ (s : List (List ℕ)). get_or s 1 []) c.shapes.ensures))
