-- A target lies in its tag's bytes: it holds of the whole tag, and each move of a path keeps it.
-- Assumes nothing.
use mathlib.Core.Path.{◌≡◌, refl, ap}
use mathlib.Core.Bool.{Bool, true, not}
use mathlib.Core.List.{List, [], ◌∷◌}
use Rattle.std.specs.Prelude.{Option, None, Some}
use Prim.Native.Nat.{ℕ, suc, ◌+◌, ◌-◌, ◌*◌, ◌≤◌, ◌<◌, max}
use native.Mathlib.Nat.{add-mul, mul_assoc, mul_comm, mul-pos, mul-le-mul_right}
use native.Mathlib.Omega.{arith}
use lib.Dec.{ltb, eqb}
use lib.ListN.{length, get_or, drop}
use borrow.Author.Tests.{ltb-true, eqb-true}
use Rattle.laws.specs.Pick.{both, is_empty}
use Rattle.laws.proofs.Chain.{by_test, pick_all}
use Rattle.laws.proofs.Tests.{both_true, pick_by, scan-all}
use Rattle.definition.specs.Segment.{Segment, name_of}
use Rattle.definition.specs.Names.{is_program_name, after_program}
use Rattle.definition.specs.Reply.{Status}
use Rattle.definition.specs.Request.{object_of, symbol_instance}
use Rattle.definition.specs.Tables.{Tables, Flags, takes_instances, Row, structure_size, members_of, member_type, member_length, member_offset, member_bit, no_bit, is_local, tag_offset}
use Rattle.definition.specs.Types.{atomic_size, is_structure, structure_of, element_size, size_in}
use Rattle.definition.specs.Lookup.{first, marked, program_named, tag_at, member_in, id_in, tag_in}
use Rattle.definition.specs.Valid.{is_type, product, tag_end, valid}
use Rattle.definition.specs.Resolve.{Target, Resolved, found, turned, whole_tag, Move, indexes, member, stray, moves, all_below, row_major, elements_from, index, member_target, visible_member, member_found, member_of, move_to, and_then, walk, from_tag, by_instance, by_name, in_scope, in_program, scoped_by, resolve}
use Rattle.definition.specs.Access.{is_denied, permitted, tag_target}
use Rattle.definition.specs.Promises.{Lies, TargetLiesInItsTag}
use Rattle.definition.proofs.Facts.{structure_in_lem, member-type, member-inside, member-bit, element-some, tag-type, tag_in_memory, tag-elements}

-- indexes below their lengths reach a position below the lengths' product
pub position_below : (p : ℕ) (es ns : List ℕ) → length es ≡ length ns → all_below es ns ≡ true → row_major p es ns < (p + 1) * product ns
unfolding all_below row_major
position_below p [] [] l e = omega arith
position_below p [] (n ∷ ns) l e = absurd (omega arith)
position_below p (i ∷ es) [] l e = absurd (omega arith)
position_below p (i ∷ es) (n ∷ ns) l e =
    let b = both_true (ltb i n) (all_below es ns) e in
    let next : row_major (p * n + i) es ns < (p * n + i + 1) * product ns = position_below (p * n + i) es ns (omega arith) b.1 in
    let row : p * n + i + 1 ≤ (p + 1) * n = omega (arith, ltb-true i n b.0, add-mul p 1 n) in
    omega (arith, mul-le-mul_right (product ns) row, mul_assoc (p + 1) n (product ns))

-- what holds of a target that was found
abbrev pub OnFound : (Target → Type 0) → Resolved → Type 0
OnFound P (found g) = P g
OnFound P (turned status) = Unit {0}

then_found : (P Q : Target → Type 0) (r : Resolved) (next : Target → Resolved) → OnFound P r → ((g : Target) → P g → OnFound Q (next g))
    → OnFound Q (and_then r next)
then_found P Q (found g) next h k = k g h
then_found P Q (turned status) next h k = tt

-- a target in its tag, of a type of the tables, with as many elements as its open array's indexes reach
pub record Stands (t : Tables) (g : Target) : Type 0 where
  pub tag : g.tag < length t.tags
  pub type : is_type (length t.structures) g.type ≡ true
  pub some_elements : 0 < g.count
  pub reach : product g.lengths ≤ g.count
  pub after_start : tag_offset (tag_at t g.tag) ≤ g.start
  pub before_end : g.start + g.count * element_size t g.type ≤ tag_end t (tag_at t g.tag)
  pub bit : g.bit ≤ no_bit

module _ (t : Tables) (f : Flags) (memory : ℕ) (ok : valid t memory ≡ true) where
  abbrev Stood : Resolved → Type 0
  Stood = OnFound (Stands t)

  pub tag_stands : (i : ℕ) → i < length t.tags → Stands t (whole_tag t i)
  unfolding whole_tag
  tag_stands i h = record {
    tag = h;
    type = tag-type t memory ok i h;
    some_elements = (tag-elements t memory ok i h).0;
    reach = (tag-elements t memory ok i h).1;
    after_start = omega arith;
    before_end = omega arith;
    bit = omega arith;
  }

  elements_stand : (g : Target) (p : ℕ) → Stands t g → p < g.count → Stands t (elements_from t g p)
  unfolding elements_from
  elements_stand g p s h =
      let size = element_size t g.type in
      let split : g.count - p + p ≡ g.count = omega arith in
      record {
        tag = s.tag;
        type = s.type;
        some_elements = omega arith;
        reach = omega arith;
        after_start = omega arith;
        before_end = omega (arith, add-mul (g.count - p) p size, ap (λ (k : ℕ). k * size) split);
        bit = s.bit;
      }

  index_stands : (es : List ℕ) (g : Target) → Stands t g → Stood (index t es g)
  unfolding index
  index_stands es g s =
      pick_all Stood (is_empty g.lengths) tt
      (pick_by Stood (eqb (length es) (length g.lengths))
      (λ same. pick_by Stood (all_below es g.lengths)
      (λ below. elements_stand g (row_major 0 es g.lengths) s
      (omega (arith, position_below 0 es g.lengths (eqb-true _ _ same) below)))
      (λ e. tt))
      (λ e. tt))

  row-stands : (g : Target) (r : Row) → Stands t g → is_type (length t.structures) (member_type r) ≡ true
      → member_offset r + element_size t (member_type r) * max 1 (member_length r) ≤ g.count * element_size t g.type → member_bit r ≤ no_bit
      → Stands t (member_target g r)
  unfolding member_target is_type size_in atomic_size
  row-stands g r s type inside b =
      let n = max 1 (member_length r) in
      let one : 0 < n = omega arith in
      by_test (eqb (member_bit r) no_bit)
      (λ e. rw e (record {
        tag = s.tag;
        type = type;
        some_elements = omega arith;
        reach = pick_all (λ ns. product ns ≤ n) (ltb 0 (member_length r)) (omega arith) (omega arith);
        after_start = omega arith;
        before_end = omega (arith, mul_comm (element_size t (member_type r)) n);
        bit = b;
      }))
      (λ e. rw e (record {
        tag = s.tag;
        type = refl;
        some_elements = omega arith;
        reach = omega arith;
        after_start = omega arith;
        before_end = omega (arith, mul-pos (element-some t memory ok (member_type r) type) one);
        bit = b;
      }))

  member_stands : (g : Target) (j : ℕ) → Stands t g → is_structure g.type ≡ true → j < length (members_of t (structure_of t g.type))
      → Stands t (member_target g (get_or (members_of t (structure_of t g.type)) j []))
  unfolding size_in
  member_stands g j s e h =
      let i = structure_in_lem (length t.structures) g.type e s.type in
      row-stands g _ s (member-type t memory ok (g.type - 0x100) j i h)
      (rw e (omega (arith, member-inside t memory ok (g.type - 0x100) j i h, mul-le-mul_right (structure_size (structure_of t g.type)) s.some_elements)))
      (member-bit t memory ok (g.type - 0x100) j i h)

  visible_stands : (g : Target) (r : Row) → Stands t (member_target g r) → Stood (visible_member f g r)
  unfolding visible_member
  visible_stands g r s = pick_all Stood (both (marked (is_local r)) f.aoi_locals_refused) tt s

  member_of_stands : (name : List ℕ) (g : Target) → Stands t g → Stood (member_of t f name g)
  unfolding member_of member_in
  member_of_stands name g s =
      pick_by Stood (both (is_structure g.type) (both (is_empty g.lengths) (eqb g.bit no_bit)))
      (λ e. scan-all _ (λ o. Stood (member_found t f g o)) Some None 0 (members_of t (structure_of t g.type)) tt
      (λ j h. visible_stands g _ (member_stands g j s (both_true (is_structure g.type) _ e).0 (omega arith))))
      (λ e. tt)

  pub move_stands : (m : Move) (g : Target) → Stands t g → Stood (move_to t f m g)
  move_stands (indexes es) g s = index_stands es g s
  move_stands (member name) g s = member_of_stands name g s
  move_stands stray g s = tt

  walk_stands : (ms : List Move) (g : Target) → Stands t g → Stood (walk t f ms g)
  unfolding walk
  walk_stands [] g s = s
  walk_stands (m ∷ ms) g s = then_found (Stands t) (Stands t) (move_to t f m g) (walk t f ms) (move_stands m g s) (walk_stands ms)

  -- ---- the whole path

  first_stands : (p : Row → Bool) (unknown : Status) (rest : List Segment) → Stood (from_tag t f unknown (first p t.tags) rest)
  first_stands p unknown rest =
      scan-all p (λ o. Stood (from_tag t f unknown o rest)) Some None 0 t.tags tt
      (λ i h. walk_stands (moves rest) (whole_tag t i) (tag_stands i (omega arith)))

  instance_stands : (scope : ℕ) (o : Option ℕ) (rest : List Segment) → Stood (by_instance t f scope o rest)
  unfolding id_in
  instance_stands scope None rest = tt
  instance_stands scope (Some id) rest = pick_all Stood (takes_instances f) (first_stands _ _ rest) tt

  named_stands : (scope : ℕ) (o : Option (List ℕ)) (s : Segment) (rest : List Segment) → Stood (by_name t f scope o s rest)
  unfolding tag_in
  named_stands scope None s rest = instance_stands scope (symbol_instance (object_of (s ∷ rest))) (drop 1 rest)
  named_stands scope (Some name) s rest = first_stands _ _ rest

  scope_stands : (scope : ℕ) (path : List Segment) → Stood (in_scope t f scope path)
  unfolding in_scope
  scope_stands scope [] = tt
  scope_stands scope (s ∷ rest) = named_stands scope (name_of s) s rest

  program_stands : (o : Option ℕ) (path : List Segment) → Stood (in_program t f o path)
  program_stands None path = tt
  program_stands (Some k) path = scope_stands (suc k) path

  scoped_stands : (o : Option (List ℕ)) (s : Segment) (rest : List Segment) → Stood (scoped_by t f o s rest)
  scoped_stands None s rest = scope_stands 0 (s ∷ rest)
  scoped_stands (Some name) s rest =
      pick_all Stood (both (is_program_name name) (not (is_empty rest)))
      (program_stands (program_named t (after_program name)) rest) (scope_stands 0 (s ∷ rest))

  resolve_stands : (path : List Segment) → Stood (resolve t f path)
  unfolding resolve
  resolve_stands [] = tt
  resolve_stands (s ∷ rest) = scoped_stands (name_of s) s rest

  lies : (g : Target) → Stands t g → Lies t memory g
  lies g s = record {
    tag = s.tag;
    some_elements = s.some_elements;
    some_bytes = element-some t memory ok g.type s.type;
    after_start = s.after_start;
    before_end = s.before_end;
    in_memory = tag_in_memory t memory ok g.tag s.tag;
    bit = s.bit;
  }

  pub target_lies : (writes : Bool) (path : List Segment) → OnFound (Lies t memory) (tag_target t f writes path)
  unfolding tag_target permitted
  target_lies writes path =
      then_found (Stands t) (Lies t memory) (resolve t f path) (permitted t f writes) (resolve_stands path)
      (λ g s. pick_all (OnFound (Lies t memory)) (is_denied t f writes g) tt (lies g s))

pub target_lies_in_its_tag : TargetLiesInItsTag
target_lies_in_its_tag t f memory writes path g ok e = rw e at (target_lies t f memory ok writes path)
