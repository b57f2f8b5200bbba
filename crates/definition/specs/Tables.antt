-- Document 01, "Type, member, tag": the table set, as rows of 32-bit words, and its rows' fields by name. The flags.
-- All of it is document 01's alone; how tables are laid out in rows is this project's choice (docs/DECISIONS.md).
use Rattle.std.specs.Prelude.{Bool, not, List, [], ◌∷◌, ℕ, ◌+◌, eqb, get_or, take, drop}
use Rattle.laws.specs.Pick.{pick, both}
use Rattle.definition.specs.Bytes.{part}

abbrev pub Row : Type 0
Row = List ℕ

pub record Tables : Type 0 where
  pub structures : List Row
  pub members : List Row
  pub programs : List Row
  pub tags : List Row
  pub others : List Row
  -- the bytes of all names but the tags', of the tags' names, and of the templates
  pub names : List ℕ
  pub tag_names : List ℕ
  pub templates : List ℕ

abbrev pub field : ℕ → Row → ℕ
field k r = get_or r k 0

-- ---- a structure

-- the name whose start and length stand at words a and b
abbrev pub name_at : (a b : ℕ) (store : List ℕ) → Row → List ℕ
name_at a b store r = part store (field a r) (field b r)

-- where the name of a structure, a member or a program ends in its store
abbrev pub end_of_name : Row → ℕ
end_of_name r = field 0 r + field 1 r

abbrev pub structure_name : (names : List ℕ) → Row → List ℕ
structure_name names r = name_at 0 1 names r

abbrev pub template_id : Row → ℕ
template_id r = field 2 r

abbrev pub handle : Row → ℕ
handle r = field 3 r

abbrev pub structure_size : Row → ℕ
structure_size r = field 4 r

abbrev pub first_member : Row → ℕ
first_member r = field 5 r

abbrev pub member_count : Row → ℕ
member_count r = field 6 r

abbrev pub is_aoi : Row → ℕ
is_aoi r = field 7 r

abbrev pub template_start : Row → ℕ
template_start r = field 8 r

abbrev pub template_length : Row → ℕ
template_length r = field 9 r

abbrev pub structure_at : Tables → ℕ → Row
structure_at t i = get_or t.structures i []

abbrev pub members_in : (members : List Row) → Row → List Row
members_in members r = take (member_count r) (drop (first_member r) members)

abbrev pub members_of : Tables → Row → List Row
members_of t r = members_in t.members r

-- ---- a member: an array length of 0 is no array, a bit of 8 is none

abbrev pub member_name : (names : List ℕ) → Row → List ℕ
member_name names r = name_at 0 1 names r

abbrev pub member_type : Row → ℕ
member_type r = field 2 r

abbrev pub member_length : Row → ℕ
member_length r = field 3 r

abbrev pub member_offset : Row → ℕ
member_offset r = field 4 r

abbrev pub member_bit : Row → ℕ
member_bit r = field 5 r

abbrev pub no_bit : ℕ
no_bit = 8

abbrev pub is_hidden : Row → ℕ
is_hidden r = field 6 r

abbrev pub is_local : Row → ℕ
is_local r = field 7 r

abbrev pub member_access : Row → ℕ
member_access r = field 8 r

-- ---- a program: its name without `Program:`

abbrev pub program_name : (names : List ℕ) → Row → List ℕ
program_name names r = name_at 0 1 names r

-- ---- a symbol: scope 0 is the controller, k + 1 program k; scope and ID stand at the same words of a tag and of another symbol

abbrev pub symbol_scope : Row → ℕ
symbol_scope r = field 0 r

abbrev pub symbol_id : Row → ℕ
symbol_id r = field 3 r

-- where the name of a symbol ends in its store
abbrev pub end_of_symbol_name : Row → ℕ
end_of_symbol_name r = field 1 r + field 2 r

-- ---- a tag: three lengths, nonzero first

abbrev pub tag_scope : Row → ℕ
tag_scope r = symbol_scope r

abbrev pub tag_name : (tag_names : List ℕ) → Row → List ℕ
tag_name tag_names r = name_at 1 2 tag_names r

abbrev pub tag_id : Row → ℕ
tag_id r = symbol_id r

abbrev pub tag_type : Row → ℕ
tag_type r = field 4 r

abbrev pub tag_lengths : Row → List ℕ
tag_lengths r = take 3 (drop 5 r)

abbrev pub first_length : Row → ℕ
first_length r = field 5 r

abbrev pub second_length : Row → ℕ
second_length r = field 6 r

abbrev pub third_length : Row → ℕ
third_length r = field 7 r

-- the nonzero ones, which stand first
abbrev pub nonzero : List ℕ → List ℕ
nonzero [] = []
nonzero (n ∷ ns) = pick (eqb n 0) [] (n ∷ nonzero ns)

abbrev pub lengths_of : Row → List ℕ
lengths_of r = nonzero (tag_lengths r)

abbrev pub tag_elements : Row → ℕ
tag_elements r = field 8 r

abbrev pub tag_access : Row → ℕ
tag_access r = field 9 r

abbrev pub is_alias : Row → ℕ
is_alias r = field 10 r

abbrev pub tag_offset : Row → ℕ
tag_offset r = field 11 r

-- ---- another symbol

abbrev pub other_scope : Row → ℕ
other_scope r = symbol_scope r

abbrev pub other_name : (names : List ℕ) → Row → List ℕ
other_name names r = name_at 1 2 names r

abbrev pub other_id : Row → ℕ
other_id r = symbol_id r

abbrev pub other_type : Row → ℕ
other_type r = field 4 r

-- ---- the flags; micro800 turns the first two off

pub record Flags : Type 0 where
  pub multi_service : Bool
  pub instance_ids : Bool
  pub aoi_locals_refused : Bool
  pub micro800 : Bool

abbrev pub takes_envelopes : Flags → Bool
takes_envelopes f = both f.multi_service (not f.micro800)

abbrev pub takes_instances : Flags → Bool
takes_instances f = both f.instance_ids (not f.micro800)
