-- Document 01, "Target": what a tag path means, or the status that turns it away, in order.
-- 1756-PM020 defines symbolic and instance addressing, members, elements in row-major order; document 01 alone the statuses and their order.
use Rattle.std.specs.Prelude.{Bool, true, not, List, [], ◌∷◌, ℕ, suc, ◌+◌, ◌-◌, ◌*◌, max, ltb, eqb, length, get_or, drop}
use Rattle.std.specs.Prelude.{Option, None, Some}
use Rattle.laws.specs.Pick.{pick, both, is_empty}
use Rattle.definition.specs.Reply.{Status, path_error, path_unknown}
use Rattle.definition.specs.Segment.{Segment, element_of, name_of}
use Rattle.definition.specs.Names.{is_program_name, after_program}
use Rattle.definition.specs.Request.{object_of, symbol_instance}
use Rattle.definition.specs.Tables.{Tables, Flags, takes_instances, Row, members_of, member_type, member_length, member_offset, member_bit, no_bit, is_local, member_access, tag_type, lengths_of, tag_elements, tag_access, tag_offset}
use Rattle.definition.specs.Types.{BOOL, is_dword_array, is_structure, structure_of, element_size}
use Rattle.definition.specs.Lookup.{marked, program_named, tag_named, tag_with_id, member_named, tag_at}

-- a place in tag memory: the tag's index, the first byte, the type word, the elements from there to the array's end (1 for no array), the lengths
-- of the array that is still open ([] for none), the bit (8: none), the largest access on the path
pub record Target : Type 0 where
  pub tag : ℕ
  pub start : ℕ
  pub type : ℕ
  pub count : ℕ
  pub lengths : List ℕ
  pub bit : ℕ
  pub access : ℕ

pub data Resolved : Type 0 where
  found : Target → Resolved
  turned : Status → Resolved

-- ---- the tag

-- the lengths that indexes are held against: a DWORD array has one index below the element count, whatever its lengths [01]
unfoldable pub index_lengths : Row → List ℕ
index_lengths r = pick (is_dword_array r) (tag_elements r ∷ []) (lengths_of r)

-- [01]
unfoldable pub whole_tag : Tables → ℕ → Target
whole_tag t i =
    let r = tag_at t i in
    record {
      tag = i;
      start = tag_offset r;
      type = tag_type r;
      count = tag_elements r;
      lengths = index_lengths r;
      bit = no_bit;
      access = tag_access r;
    }

-- ---- the moves behind it: a run of elements is one move, a name is one, any other segment is turned away

pub data Move : Type 0 where
  indexes : List ℕ → Move
  member : (name : List ℕ) → Move
  stray : Move

-- an element before other moves joins the run that they begin with [PM020]
abbrev pub join_run : ℕ → List Move → List Move
join_run e [] = indexes (e ∷ []) ∷ []
join_run e (indexes es ∷ rest) = indexes (e ∷ es) ∷ rest
join_run e (member name ∷ rest) = indexes (e ∷ []) ∷ (member name ∷ rest)
join_run e (stray ∷ rest) = indexes (e ∷ []) ∷ (stray ∷ rest)

-- [PM020]
abbrev pub add_move : (element : Option ℕ) (name : Option (List ℕ)) → List Move → List Move
add_move (Some e) name rest = join_run e rest
add_move None (Some name) rest = member name ∷ rest
add_move None None rest = stray ∷ rest

-- [PM020]
unfoldable pub moves : List Segment → List Move
moves [] = []
moves (s ∷ rest) = add_move (element_of s) (name_of s) (moves rest)

-- each index below its length; the position, row-major, behind an outer position p [01]
unfoldable pub all_below : (indexes lengths : List ℕ) → Bool
all_below [] ns = true
all_below (e ∷ es) [] = true
all_below (e ∷ es) (n ∷ ns) = both (ltb e n) (all_below es ns)

-- [PM020]
unfoldable pub row_major : (p : ℕ) (indexes lengths : List ℕ) → ℕ
row_major p [] ns = p
row_major p (e ∷ es) [] = p
row_major p (e ∷ es) (n ∷ ns) = row_major (p * n + e) es ns

-- [01]
unfoldable pub elements_from : Tables → Target → (position : ℕ) → Target
elements_from t g p = record {
  tag = g.tag;
  start = g.start + p * element_size t g.type;
  type = g.type;
  count = g.count - p;
  lengths = [];
  bit = g.bit;
  access = g.access;
}

-- an array is open (0x04), the number of indexes matches (0x04), each is below its length (0x05) [01]
unfoldable pub index : Tables → List ℕ → Target → Resolved
index t es g =
    pick (is_empty g.lengths) (turned path_error)
    (pick (eqb (length es) (length g.lengths))
    (pick (all_below es g.lengths) (found (elements_from t g (row_major 0 es g.lengths))) (turned path_unknown))
    (turned path_error))

-- a bit member is one BOOL, whatever its type and length in the table say [01]
unfoldable pub member_target : Target → Row → Target
member_target g r =
    let isBit = not (eqb (member_bit r) no_bit) in
    let isArray = ltb 0 (member_length r) in
    record {
      tag = g.tag;
      start = g.start + member_offset r;
      type = pick isBit BOOL (member_type r);
      count = pick isBit 1 (max 1 (member_length r));
      lengths = pick isBit [] (pick isArray (member_length r ∷ []) []);
      bit = member_bit r;
      access = max g.access (member_access r);
    }

-- locals are not found when refused [01]
unfoldable pub visible_member : Flags → Target → Row → Resolved
visible_member f g r = pick (both (marked (is_local r)) f.aoi_locals_refused) (turned path_error) (found (member_target g r))

-- [01]
abbrev pub member_found : Tables → Flags → Target → Option ℕ → Resolved
member_found t f g None = turned path_error
member_found t f g (Some i) = visible_member f g (get_or (members_of t (structure_of t g.type)) i [])

-- a member needs a structure, no open array and no bit before it [01]
unfoldable pub member_of : Tables → Flags → List ℕ → Target → Resolved
member_of t f name g =
    pick (both (is_structure g.type) (both (is_empty g.lengths) (eqb g.bit no_bit)))
    (member_found t f g (member_named t (structure_of t g.type) name)) (turned path_error)

-- [01]
abbrev pub move_to : Tables → Flags → Move → Target → Resolved
move_to t f (indexes es) g = index t es g
move_to t f (member name) g = member_of t f name g
move_to t f stray g = turned path_error

-- [01]
abbrev pub and_then : Resolved → (Target → Resolved) → Resolved
and_then (found g) next = next g
and_then (turned status) next = turned status

-- [01]
unfoldable pub walk : Tables → Flags → List Move → Target → Resolved
walk t f [] g = found g
walk t f (m ∷ rest) g = and_then (move_to t f m g) (walk t f rest)

-- ---- the whole path

-- [01]
abbrev pub from_tag : Tables → Flags → Status → Option ℕ → List Segment → Resolved
from_tag t f unknown None rest = turned unknown
from_tag t f unknown (Some i) rest = walk t f (moves rest) (whole_tag t i)

-- by instance: 0x05 with the flag off, or unknown; a path that is neither gets 0x04 [01]
abbrev pub by_instance : Tables → Flags → (scope : ℕ) → Option ℕ → List Segment → Resolved
by_instance t f scope None rest = turned path_error
by_instance t f scope (Some id) rest = pick (takes_instances f) (from_tag t f path_unknown (tag_with_id t scope id) rest) (turned path_unknown)

-- [01]
abbrev pub by_name : Tables → Flags → (scope : ℕ) → Option (List ℕ) → (s : Segment) (rest : List Segment) → Resolved
by_name t f scope None s rest = by_instance t f scope (symbol_instance (object_of (s ∷ rest))) (drop 1 rest)
by_name t f scope (Some name) s rest = from_tag t f path_error (tag_named t scope name) rest

-- [01]
unfoldable pub in_scope : Tables → Flags → (scope : ℕ) → List Segment → Resolved
in_scope t f scope [] = turned path_error
in_scope t f scope (s ∷ rest) = by_name t f scope (name_of s) s rest

-- [01]
abbrev pub in_program : Tables → Flags → Option ℕ → List Segment → Resolved
in_program t f None rest = turned path_error
in_program t f (Some k) rest = in_scope t f (suc k) rest

-- one program name is taken off, if something follows it [01]
abbrev pub scoped_by : Tables → Flags → Option (List ℕ) → (s : Segment) (rest : List Segment) → Resolved
scoped_by t f None s rest = in_scope t f 0 (s ∷ rest)
scoped_by t f (Some name) s rest =
    pick (both (is_program_name name) (not (is_empty rest))) (in_program t f (program_named t (after_program name)) rest) (in_scope t f 0 (s ∷ rest))

-- [01]
unfoldable pub resolve : Tables → Flags → List Segment → Resolved
resolve t f [] = turned path_error
resolve t f (s ∷ rest) = scoped_by t f (name_of s) s rest
