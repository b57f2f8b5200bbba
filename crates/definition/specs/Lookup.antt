-- Document 01, "Type, member, tag" and "Target": the lookups, each the first in table order.
-- All of it is document 01's alone.
use Rattle.std.specs.Prelude.{Bool, not, List, [], ℕ, eqb, get_or}
use Rattle.std.specs.Prelude.{Option, None, Some}
use Rattle.laws.specs.Pick.{pick, ◌&◌}
use Rattle.laws.specs.Scan.{scan}
use Rattle.laws.specs.Tests.{some_of}
use Rattle.definition.specs.Names.{same_name, is_program_name, after_program}
use Rattle.definition.specs.Tables.{Tables, Row, template_id, members_of, member_name, is_hidden, is_local, program_name, tag_scope, tag_name, symbol_scope, symbol_id}

-- the index of the first row that passes
abbrev pub first : (Row → Bool) → List Row → Option ℕ
first p rows = scan p Some None 0 rows

-- a mark is 0 or 1
abbrev pub marked : ℕ → Bool
marked mark = eqb mark 1

unfoldable pub program_in : (programs : List Row) (names name : List ℕ) → Option ℕ
program_in programs names name = first (λ r. same_name (program_name names r) name) programs

abbrev pub program_named : Tables → (name : List ℕ) → Option ℕ
program_named t name = program_in t.programs t.names name

-- the program that a name with the prefix means
unfoldable pub program_of : Tables → (name : List ℕ) → Option ℕ
program_of t name = pick (is_program_name name) (program_named t (after_program name)) None

unfoldable pub tag_in : (tags : List Row) (tag_names : List ℕ) (scope : ℕ) (name : List ℕ) → Option ℕ
tag_in tags tag_names scope name = first (λ r. eqb (tag_scope r) scope & same_name (tag_name tag_names r) name) tags

abbrev pub tag_named : Tables → (scope : ℕ) (name : List ℕ) → Option ℕ
tag_named t scope name = tag_in t.tags t.tag_names scope name

-- of tags, or of other symbols
unfoldable pub id_in : (rows : List Row) (scope id : ℕ) → Option ℕ
id_in rows scope id = first (λ r. eqb (symbol_scope r) scope & eqb (symbol_id r) id) rows

abbrev pub tag_with_id : Tables → (scope id : ℕ) → Option ℕ
tag_with_id t scope id = id_in t.tags scope id

abbrev pub other_with_id : Tables → (scope id : ℕ) → Option ℕ
other_with_id t scope id = id_in t.others scope id

-- of some members that are not hidden, the first of that name
unfoldable pub member_in : (members : List Row) (names name : List ℕ) → Option ℕ
member_in members names name = first (λ r. not (marked (is_hidden r)) & same_name (member_name names r) name) members

-- its place among the structure's members
abbrev pub member_named : Tables → (structure : Row) (name : List ℕ) → Option ℕ
member_named t s name = member_in (members_of t s) t.names name

unfoldable pub template_in : (structures : List Row) (id : ℕ) → Option ℕ
template_in structures id = first (λ r. eqb (template_id r) id) structures

abbrev pub structure_with_template : Tables → (id : ℕ) → Option ℕ
structure_with_template t id = template_in t.structures id

-- a hidden member counts
unfoldable pub local_in : (members : List Row) → Bool
local_in members = some_of (λ r. marked (is_local r)) members

abbrev pub has_locals : Tables → (structure : Row) → Bool
has_locals t s = local_in (members_of t s)

abbrev pub tag_at : Tables → ℕ → Row
tag_at t i = get_or t.tags i []
