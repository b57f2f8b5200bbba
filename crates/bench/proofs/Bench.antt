-- The starred lines of document 01's "Pallet bench", proved together: the definition computes what each line says, buffer and memory included.
-- Assumes nothing.
use Rattle.std.proofs.Common.{◌≡◌, map, refl}
use Rattle.definition.specs.Pallet.{computed, expected}
use Rattle.bench.specs.Starred.{starred}

pub starred_lines : map computed starred ≡ map expected starred
unfolding starred computed expected
starred_lines = refl
