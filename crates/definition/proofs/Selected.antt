-- A read that is granted selects some bytes, and all of them lie in tag memory.
-- Assumes nothing.
use mathlib.Core.Path.{◌≡◌}
use mathlib.Core.Bool.{true, false}
use mathlib.Core.List.{List}
use Prim.Native.Nat.{ℕ, ◌+◌, ◌≤◌, ◌<◌}
use native.Mathlib.Nat.{mul-pos, mul-le-mul_right}
use native.Mathlib.Omega.{arith}
use lib.Dec.{ltb, eqb}
use lib.ListN.{length}
use borrow.Author.Tests.{ltb-false, eqb-true, eqb-false}
use Rattle.laws.proofs.Chain.{pick_all}
use Rattle.laws.proofs.Put.{length_part}
use Rattle.laws.proofs.Tests.{pick_by}
use Rattle.definition.specs.Segment.{Segment}
use Rattle.definition.specs.Tables.{Tables, Flags, no_bit}
use Rattle.definition.specs.Types.{element_size}
use Rattle.definition.specs.Valid.{valid}
use Rattle.definition.specs.Resolve.{Target, Resolved, found, turned}
use Rattle.definition.specs.Access.{tag_target}
use Rattle.definition.specs.Read.{Selection, selected_bytes, Asked, granted, not_granted, selection, ask, ask_target}
use Rattle.definition.specs.Promises.{Lies}
use Rattle.definition.proofs.Inside.{OnFound, target_lies}

record Within (memory : ℕ) (s : Selection) : Type 0 where
  some_bytes : 0 < s.size
  inside : s.start + s.size ≤ memory

abbrev AskedWithin : ℕ → Asked → Type 0
AskedWithin memory (granted s) = Within memory s
AskedWithin memory (not_granted status) = Unit {0}

selection-within : (t : Tables) (memory : ℕ) (g : Target) (elements : ℕ) → Lies t memory g → 0 < elements → elements ≤ g.count
    → Within memory (selection t.structures g elements)
unfolding selection
selection-within t memory g elements l some few = record {
  some_bytes = mul-pos some l.some_bytes;
  inside = omega (arith, mul-le-mul_right (element_size t g.type) few);
}

ask-within : (t : Tables) (memory : ℕ) (g : Target) (elements : ℕ) → Lies t memory g → AskedWithin memory (ask t.structures g elements)
unfolding ask
ask-within t memory g elements l =
    let within = selection-within t memory g elements l in
    pick_by (AskedWithin memory) (eqb g.bit no_bit)
    (λ e. pick_by (AskedWithin memory) (eqb elements 0) (λ z. tt)
    (λ z. pick_by (AskedWithin memory) (ltb g.count elements) (λ c. tt)
    (λ c. within (omega (arith, eqb-false elements 0 z)) (ltb-false g.count elements c))))
    (λ e. pick_by (AskedWithin memory) (eqb elements 1)
    (λ o. within (omega (arith, eqb-true elements 1 o)) (omega (arith, eqb-true elements 1 o))) (λ o. tt))

target-within : (t : Tables) (memory : ℕ) (r : Resolved) (elements : ℕ) → OnFound (Lies t memory) r → AskedWithin memory (ask_target t.structures r elements)
target-within t memory (found g) elements l = ask-within t memory g elements l
target-within t memory (turned status) elements l = tt

module _ (t : Tables) (f : Flags) (path : List Segment) (elements : ℕ) (s : Selection) (memory : List ℕ)
    (ok : valid t (length memory) ≡ true) (given : ask_target t.structures (tag_target t f false path) elements ≡ granted s) where
  within : Within (length memory) s
  within = rw given at (target-within t (length memory) (tag_target t f false path) elements (target_lies t f (length memory) ok false path))

  pub granted-some : 0 < length (selected_bytes s memory)
  unfolding selected_bytes
  granted-some =
      pick_all (λ (l : List ℕ). 0 < length l) (eqb s.bit no_bit)
      (omega (arith, within.some_bytes, length_part memory s.start s.size within.inside)) (omega arith)
