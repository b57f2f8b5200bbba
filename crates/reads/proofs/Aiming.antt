-- Where a resolved target lies: its first byte, so many of its elements, and an element of an atomic type, are in tag memory.
-- Assumes nothing.
use mathlib.Core.List.{List}
use Prim.Native.Nat.{ℕ, ◌+◌, ◌*◌, ◌≤◌}
use native.Mathlib.Nat.{mul-le-mul_right}
use native.Mathlib.Omega.{arith}
use Rattle.definition.specs.Tables.{Row}
use Rattle.definition.specs.Types.{atomic_size}
use Rattle.definition.proofs.Facts.{atomic_inside}
use Rattle.model.specs.Tables.{Aimed}
use Rattle.model.specs.declared.Target.{Target}

module _ (structures : List Row) (memory : ℕ) (g : Target) (a : Aimed structures memory g) where
  pub aimed_inside : (elements : ℕ) → elements ≤ g.count → g.start + elements * g.size ≤ memory
  aimed_inside elements h = omega (arith, mul-le-mul_right g.size h)

  -- what a masked write leans on: an element of an atomic type has its code's size
  pub aimed_atomic : g.start + atomic_size g.ty ≤ memory
  aimed_atomic = omega (arith, aimed_inside 1 a.some_elements, a.size_is, atomic_inside structures g.ty)
