-- A program's name is longer than its prefix.
-- Assumes nothing.
use mathlib.Core.Path.{◌≡◌, sym}
use mathlib.Core.Bool.{true}
use mathlib.Core.List.{List}
use Prim.Native.Nat.{ℕ, ◌<◌}
use lib.Dec.{ltb}
use lib.ListN.{length}
use borrow.Author.Tests.{ltb-true}
use Rattle.std.proofs.lemmas.List.{take_rest}
use Rattle.laws.proofs.Tests.{both_true}
use Rattle.definition.specs.Names.{is_program_name}

pub program_long : (name : List ℕ) → true ≡ is_program_name name → 8 < length name
unfolding is_program_name
program_long name e = ltb-true 8 (length name) (both_true (ltb 8 (length name)) _ (sym e)).0

pub ruleset named = (program_long, take_rest)
