-- Once a path is resolved, no write minds the lengths of the array that is still open.
-- Assumes nothing.
use mathlib.Core.Path.{◌≡◌, refl}
use mathlib.Core.List.{List, []}
use Prim.Native.Nat.{ℕ}
use Rattle.definition.specs.Tables.{Row}
use Rattle.definition.specs.Write.{write_bit, type_matches, write_part, write_value, write_stored}
use Rattle.definition.specs.Masked.{takes_mask, masked_stored}
use Rattle.model.specs.Tables.{target_of}
use Rattle.model.specs.declared.Target.{Target}

module _ (structures : List Row) (memory : List ℕ) (g : Target) (lengths body : List ℕ) where
  pub write_any_lengths : (service : ℕ)
      → write_stored structures memory service (target_of g lengths) body ≡ write_stored structures memory service (target_of g []) body
  unfolding write_stored write_value write_part write_bit type_matches
  write_any_lengths service = refl

  pub masked_any_lengths : masked_stored memory (target_of g lengths) body ≡ masked_stored memory (target_of g []) body
  unfolding masked_stored takes_mask
  masked_any_lengths = refl
