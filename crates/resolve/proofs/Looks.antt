-- A path is resolved by the structures, the members, the programs, the tags and their names: the other symbols and the templates do not matter. A move
-- looks at the structures, the members and the names alone.
-- Assumes nothing.
use mathlib.Core.Path.{◌≡◌, refl}
use mathlib.Core.List.{List, [], ◌∷◌}
use Rattle.std.specs.Prelude.{Option, None, Some}
use Prim.Native.Nat.{ℕ, suc}
use lib.ListN.{drop}
use Rattle.definition.specs.Names.{after_program}
use Rattle.definition.specs.Reply.{Status, path_unknown}
use Rattle.definition.specs.Request.{object_of, symbol_instance}
use Rattle.definition.specs.Segment.{Segment, name_of}
use Rattle.definition.specs.Tables.{Tables, Flags}
use Rattle.definition.specs.Types.{structure_of}
use Rattle.definition.specs.Lookup.{member_named, program_named, tag_named, tag_with_id}
use Rattle.definition.specs.Resolve.{Target, Resolved, found, turned, whole_tag, Move, indexes, member, stray, moves, index, elements_from, member_found, member_of, move_to, and_then, walk, from_tag, by_instance, by_name, in_scope, in_program, scoped_by, resolve}
use Rattle.resolve.specs.Answers.{path_tables, walk_tables}

then_same : (r : Resolved) (a b : Target → Resolved) → ((g : Target) → a g ≡ b g) → and_then r a ≡ and_then r b
then_same (found g) a b h = h g
then_same (turned s) a b h = refl

module _ (t o : Tables) (f : Flags) where
  member_same : (g : Target) (i : Option ℕ) → member_found (walk_tables t o) f g i ≡ member_found t f g i
  member_same g None = refl
  member_same g (Some i) = refl

  pub move_same : (m : Move) (g : Target) → move_to (walk_tables t o) f m g ≡ move_to t f m g
  unfolding index elements_from member_of
  move_same (indexes es) g = refl
  move_same (member name) g = rw (member_same g (member_named t (structure_of t g.type) name))
  move_same stray g = refl

module _ (t o : Tables) (f : Flags) where
  abbrev seen : Tables
  seen = path_tables t o

  walk_same : (ms : List Move) (g : Target) → walk seen f ms g ≡ walk t f ms g
  unfolding walk
  walk_same [] g = refl
  walk_same (m ∷ ms) g = rw (move_same t seen f m g) (then_same (move_to t f m g) _ _ (walk_same ms))

  tag_same : (unknown : Status) (i : Option ℕ) (rest : List Segment) → from_tag seen f unknown i rest ≡ from_tag t f unknown i rest
  unfolding whole_tag
  tag_same unknown None rest = refl
  tag_same unknown (Some i) rest = walk_same (moves rest) (whole_tag t i)

  instance_same : (scope : ℕ) (id : Option ℕ) (rest : List Segment) → by_instance seen f scope id rest ≡ by_instance t f scope id rest
  instance_same scope None rest = refl
  instance_same scope (Some id) rest = rw (tag_same path_unknown (tag_with_id t scope id) rest)

  name_same : (scope : ℕ) (name : Option (List ℕ)) (s : Segment) (rest : List Segment)
      → by_name seen f scope name s rest ≡ by_name t f scope name s rest
  name_same scope None s rest = instance_same scope (symbol_instance (object_of (s ∷ rest))) (drop 1 rest)
  name_same scope (Some name) s rest = tag_same _ (tag_named t scope name) rest

  scope_same : (scope : ℕ) (l : List Segment) → in_scope seen f scope l ≡ in_scope t f scope l
  unfolding in_scope
  scope_same scope [] = refl
  scope_same scope (s ∷ rest) = name_same scope (name_of s) s rest

  program_same : (k : Option ℕ) (rest : List Segment) → in_program seen f k rest ≡ in_program t f k rest
  program_same None rest = refl
  program_same (Some k) rest = scope_same (suc k) rest

  scoped_same : (name : Option (List ℕ)) (s : Segment) (rest : List Segment) → scoped_by seen f name s rest ≡ scoped_by t f name s rest
  scoped_same None s rest = scope_same 0 (s ∷ rest)
  scoped_same (Some name) s rest = rw (program_same (program_named t (after_program name)) rest, scope_same 0 (s ∷ rest))

  pub resolve_same : (l : List Segment) → resolve seen f l ≡ resolve t f l
  unfolding resolve
  resolve_same [] = refl
  resolve_same (s ∷ rest) = scoped_same (name_of s) s rest
