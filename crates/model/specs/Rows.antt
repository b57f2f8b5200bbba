-- The tests of a row that the lookups make.
use Rattle.std.specs.Prelude.{Bool, not, List, ℕ, eqb}
use Rattle.laws.specs.Pick.{both}
use Rattle.definition.specs.Names.{same_name}
use Rattle.definition.specs.Tables.{Row, template_id, member_name, is_hidden, is_local, program_name, tag_scope, tag_name, tag_id}
use Rattle.definition.specs.Lookup.{marked}

abbrev pub program_is : (names name : List ℕ) → Row → Bool
program_is names name r = same_name (program_name names r) name

abbrev pub tag_is : (tag_names : List ℕ) (scope : ℕ) (name : List ℕ) → Row → Bool
tag_is tag_names scope name r = both (eqb (tag_scope r) scope) (same_name (tag_name tag_names r) name)

abbrev pub id_is : (scope id : ℕ) → Row → Bool
id_is scope id r = both (eqb (tag_scope r) scope) (eqb (tag_id r) id)

abbrev pub member_is : (names name : List ℕ) → Row → Bool
member_is names name r = both (not (marked (is_hidden r))) (same_name (member_name names r) name)

abbrev pub template_is : (id : ℕ) → Row → Bool
template_is id r = eqb (template_id r) id

abbrev pub is_local_row : Row → Bool
is_local_row r = marked (is_local r)
