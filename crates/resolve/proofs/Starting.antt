-- The tag that a path starts with, by the segments that the decoder found.
-- Assumes nothing.
use mathlib.Core.Path.{◌≡◌, refl}
use mathlib.Core.Bool.{true, false}
use mathlib.Core.List.{List, [], ◌∷◌}
use Rattle.std.specs.Prelude.{Option, None, Some, Err, Result}
use Prim.Native.Nat.{ℕ, suc, ◌+◌, ◌<◌, ◌≤◌}
use native.Mathlib.Omega.{arith}
use lib.ListN.{length, drop}
use borrow.Author.Tests.{eq-eqb}
use Rattle.laws.specs.Pick.{is_empty}
use Rattle.laws.proofs.Tests.{both-none}
use Rattle.std.proofs.Common.{Bor}
use Rattle.definition.specs.Names.{is_program_name}
use Rattle.definition.specs.Segment.{Segment as Defined, class, instance, symbol}
use Rattle.definition.specs.Request.{object_of, symbol_instance}
use Rattle.definition.specs.Tables.{Tables, Flags, takes_instances}
use Rattle.definition.specs.Lookup.{program_named, tag_named, tag_with_id}
use Rattle.definition.specs.Resolve.{Resolved, by_instance, in_scope, in_program, resolve}
use Rattle.cip.specs.declared.Status.{Status}
use Rattle.cip.specs.declared.Status.TheVariants.{PathError, PathUnknown}
use Rattle.path.specs.Paths.{segment_of}
use Rattle.path.specs.declared.Object.{Object}
use Rattle.path.specs.declared.Segment.{Segment}
use Rattle.path.specs.declared.Segment.TheVariants.{Symbol}
use Rattle.resolve.specs.declared.rest.Rest.{Rest}
use Rattle.resolve.specs.declared.start.Start.{Start}
use Rattle.resolve.specs.Paths.{left}
use Rattle.resolve.specs.Starts.{found_at, Begins, Prefixed}
use Rattle.resolve.proofs.Lefts.{no_name}
use Rattle.resolve.proofs.Rows.{tag-inside, id-inside, program_inside}

pub program_few : (t : Tables) (name : List ℕ) (k : ℕ) → length t.programs ≤ 16 → program_named t name ≡ Some k → k < 16
program_few t name k h e = omega (arith, h, program_inside t.programs t.names name k e)

module _ (t : Tables) (f : Flags) where
  abbrev Starts : Resolved → Result Start Status → Type 0
  Starts = Begins t f

  -- ---- by instance

  module _ (scope : ℕ) (l : List Defined) where
    abbrev Numbered : Result Start Status → Type 0
    Numbered = Starts (by_instance t f scope (symbol_instance (object_of l)) (drop 2 l))

    module _ (o : Object) (next : Rest) (all : l ≡ class o.class ∷ (instance o.instance ∷ left next)) where
      numbered_by : o.class ≡ 0x6B → takes_instances f ≡ true → (i : Option ℕ) → tag_with_id t scope o.instance ≡ i
          → Numbered (found_at i next PathUnknown)
      numbered_by h y None e = record { is = rw (all, eq-eqb o.class 0x6B h, y, e); inside = tt }
      numbered_by h y (Some i) e = record { is = rw (all, eq-eqb o.class 0x6B h, y, e); inside = id-inside t.tags scope o.instance i e }

      pub numbered-on : o.class ≡ 0x6B → takes_instances f ≡ true → Numbered (found_at (tag_with_id t scope o.instance) next PathUnknown)
      numbered-on h y = numbered_by h y (tag_with_id t scope o.instance) refl

    -- ---- in a scope

    abbrev Scoped : Result Start Status → Type 0
    Scoped = Starts (in_scope t f scope l)

    named_by : (name : List ℕ) (next : Rest) → l ≡ symbol name ∷ left next → (o : Option ℕ) → tag_named t scope name ≡ o
        → Scoped (found_at o next PathError)
    unfolding in_scope
    named_by name next e None g = record { is = rw (e, g); inside = tt }
    named_by name next e (Some i) g = record { is = rw (e, g); inside = tag-inside t.tags t.tag_names scope name i g }

    pub scope_named : (name : List ℕ) (next : Rest) → l ≡ symbol name ∷ left next → Scoped (found_at (tag_named t scope name) next PathError)
    scope_named name next e = named_by name next e (tag_named t scope name) refl

    pub scope-empty : l ≡ [] → Scoped (Err PathError)
    unfolding in_scope
    scope-empty e = record { is = rw e; inside = tt }

    pub scope-other : (s : Segment) (next : List Defined) → l ≡ segment_of s ∷ next → ((x : Bor (List ℕ)) → s ≡ Symbol x → ⊥)
        → (r : Result Start Status) → Numbered r → Scoped r
    unfolding in_scope
    scope-other s next e n r b = record { is = rw (e, no_name s n) (rw e at b.is); inside = b.inside }

  -- ---- in a program

  pub program_found : (name : List ℕ) (k scope : ℕ) (l : List Defined) (r : Result Start Status) → program_named t name ≡ Some k → scope ≡ k + 1
      → Starts (in_scope t f scope l) r → Starts (in_program t f (program_named t name) l) r
  program_found name k scope l r e g b = let h : scope ≡ suc k = omega (arith, g) in rw e (rw h at b)

-- ---- the prefix

module _ (l : List Defined) where
  pub prefix-empty : l ≡ [] → Prefixed l None
  unfolding resolve in_scope
  prefix-empty e t f = rw e

  pub prefix-other : (s : Segment) (next : List Defined) → l ≡ segment_of s ∷ next → ((x : Bor (List ℕ)) → s ≡ Symbol x → ⊥)
      → Prefixed l None
  unfolding resolve
  prefix-other s next e n t f = rw (e, no_name s n)

  module _ (name : List ℕ) (next : List Defined) (first : l ≡ symbol name ∷ next) where
    pub prefix_last : is_empty next ≡ true → Prefixed l None
    unfolding resolve
    prefix_last h t f = rw (first, h, both-none (is_program_name name))

    pub prefix-plain : is_program_name name ≡ false → Prefixed l None
    unfolding resolve
    prefix-plain off t f = rw (first, off)

    pub prefix_program : is_program_name name ≡ true → is_empty next ≡ false → (t : Tables) (f : Flags)
        → in_program t f (program_named t (drop 8 name)) next ≡ resolve t f l
    unfolding resolve
    prefix_program on h t f = rw (first, on, h)
