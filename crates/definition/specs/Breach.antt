-- Which test of item 4 (the tables' encoding and T1 to T6) a table set breaks first, and in which row. The tests stand in the order of docs/RULES.md: the
-- counts,
-- each table's rows, then rows that clash with each other. A rule's number is 100 times the number of its T plus 1, 2, ..; the encoding's are 1 to 11.
use Rattle.std.specs.Prelude.{Bool, true, List, [], ◌∷◌, ◌++◌, map, ℕ, ◌+◌, ◌*◌, ◌-◌, min, max, ltb, leb, eqb, length, get_or}
use Rattle.std.specs.Prelude.{Option, None, Some}
use Rattle.laws.specs.Pick.{pick, both, either}
use Rattle.laws.specs.Tests.{every}
use Rattle.laws.specs.First.{first_of}
use Rattle.definition.specs.Tables.{Tables, Row, structure_name, template_id, handle, structure_size, first_member, member_count, is_aoi, template_start, template_length, structure_at, member_name, member_type, member_length, member_offset, member_bit, no_bit, is_hidden, is_local, member_access, program_name, tag_scope, tag_name, tag_id, tag_type, tag_lengths, lengths_of, tag_elements, tag_access, is_alias, other_scope, other_name, other_id, other_type}
use Rattle.definition.specs.Types.{size_in}
use Rattle.definition.specs.Valid.{name_stored, symbol_name_stored, is_mark, is_type, is16, other_length, tag_names_differ, other_names_differ, program_names_differ, ids_differ, product, zeros_last, is_bool_array, end_in, apart}

-- ---- the tables and the two stores that T1 bounds, by number

abbrev pub no_table : ℕ
no_table = 0

abbrev pub structures_table : ℕ
structures_table = 1

abbrev pub members_table : ℕ
members_table = 2

abbrev pub programs_table : ℕ
programs_table = 3

abbrev pub tags_table : ℕ
tags_table = 4

abbrev pub others_table : ℕ
others_table = 5

abbrev pub tag_memory : ℕ
tag_memory = 6

abbrev pub template_store : ℕ
template_store = 7

-- ---- what is told: the rule, the row that breaks it, and the row that it clashes with (no table and row 0 where a row breaks it by itself)

pub record Breach : Type 0 where
  pub rule : ℕ
  pub table : ℕ
  pub row : ℕ
  pub other_table : ℕ
  pub other : ℕ

-- ---- a test: for each of so many rows i of the other table, the rows j of its table from one up to another

pub record Test : Type 0 where
  pub rule : ℕ
  pub table : ℕ
  pub other_table : ℕ
  pub others : ℕ
  pub from : ℕ → ℕ
  pub upto : ℕ → ℕ
  pub holds : (i j : ℕ) → Bool

abbrev pub row_at : List Row → ℕ → Row
row_at rows i = get_or rows i []

-- at most so many: the row behind them is one too many
abbrev pub most : (table count limit : ℕ) → Test
most table count limit = record {
  rule = 101;
  table = table;
  other_table = no_table;
  others = 1;
  from = λ i. 0;
  upto = λ i. count;
  holds = λ i j. ltb j limit;
}

-- a rule of a row by itself
pub record RowRule : Type 0 where
  pub rule : ℕ
  pub passes : Row → Bool

abbrev pub row_rule : ℕ → (Row → Bool) → RowRule
row_rule n p = record { rule = n; passes = p }

abbrev pub each : (table : ℕ) → List Row → RowRule → Test
each table rows x = record {
  rule = x.rule;
  table = table;
  other_table = no_table;
  others = 1;
  from = λ i. 0;
  upto = λ i. length rows;
  holds = λ i j. x.passes (row_at rows j);
}

-- each two rows of a table
abbrev pub two : (rule table : ℕ) → List Row → (Row → Row → Bool) → Test
two rule table rows p = record {
  rule = rule;
  table = table;
  other_table = table;
  others = length rows;
  from = λ i. i + 1;
  upto = λ i. length rows;
  holds = λ i j. p (row_at rows i) (row_at rows j);
}

-- each other symbol against each tag
abbrev pub tags_others : (rule : ℕ) → Tables → (Row → Row → Bool) → Test
tags_others rule t p = record {
  rule = rule;
  table = others_table;
  other_table = tags_table;
  others = length t.tags;
  from = λ i. 0;
  upto = λ i. length t.others;
  holds = λ i j. p (row_at t.tags i) (row_at t.others j);
}

-- each member of a structure's in the member table, with its structure's index
abbrev pub member_of : (rule : ℕ) → Tables → (ℕ → Row → Row → Bool) → Test
member_of rule t p = record {
  rule = rule;
  table = members_table;
  other_table = structures_table;
  others = length t.structures;
  from = λ i. first_member (structure_at t i);
  upto = λ i. min (first_member (structure_at t i) + member_count (structure_at t i)) (length t.members);
  holds = λ i j. p i (structure_at t i) (row_at t.members j);
}

-- ---- T1's counts

unfoldable pub counts : Tables → (memory : ℕ) → List Test
counts t memory =
    most structures_table (length t.structures) 64
    ∷ most members_table (length t.members) 512
    ∷ most programs_table (length t.programs) 16
    ∷ most tags_table (length t.tags) 1024
    ∷ most others_table (length t.others) 64
    ∷ most tag_memory memory 65536
    ∷ most template_store (length t.templates) 65536
    ∷ []

-- ---- the rules of a row

-- T2, of a name: 1 to 40 bytes (an other symbol's: `other_length`); 0x20 to 0x7E
unfoldable pub name_length : List ℕ → Bool
name_length name = both (ltb 0 (length name)) (leb (length name) 40)

unfoldable pub name_bytes : List ℕ → Bool
name_bytes name = every (λ b. both (leb 0x20 b) (leb b 0x7E)) name

unfoldable pub structure_rules : (names : List ℕ) (members templates : ℕ) → List RowRule
structure_rules names members templates =
    row_rule 1 (name_stored (length names))
    ∷ row_rule 201 (λ r. name_length (structure_name names r))
    ∷ row_rule 202 (λ r. name_bytes (structure_name names r))
    ∷ row_rule 4 (λ r. is16 (template_id r))
    ∷ row_rule 5 (λ r. is16 (handle r))
    ∷ row_rule 7 (λ r. leb (first_member r + member_count r) members)
    ∷ row_rule 8 (λ r. is_mark (is_aoi r))
    ∷ row_rule 401 (λ r. both (ltb 0 (structure_size r)) (leb (structure_size r) 65535))
    ∷ row_rule 402 (λ r. leb (template_start r + template_length r) templates)
    ∷ []

unfoldable pub member_rules : (names : List ℕ) (structures : ℕ) → List RowRule
member_rules names structures =
    row_rule 1 (name_stored (length names))
    ∷ row_rule 201 (λ r. name_length (member_name names r))
    ∷ row_rule 202 (λ r. name_bytes (member_name names r))
    ∷ row_rule 3 (λ r. is_type structures (member_type r))
    ∷ row_rule 9 (λ r. is_mark (is_hidden r))
    ∷ row_rule 10 (λ r. is_mark (is_local r))
    ∷ row_rule 102 (λ r. leb (member_access r) 3)
    ∷ row_rule 403 (λ r. leb (member_bit r) no_bit)
    ∷ []

unfoldable pub program_rules : (names : List ℕ) → List RowRule
program_rules names =
    row_rule 1 (name_stored (length names))
    ∷ row_rule 201 (λ r. name_length (program_name names r))
    ∷ row_rule 202 (λ r. name_bytes (program_name names r))
    ∷ []

-- T5: the product of its lengths, or a BOOL array's
unfoldable pub has_elements : Row → Bool
has_elements r = either (eqb (tag_elements r) (product (lengths_of r))) (is_bool_array r)

unfoldable pub tag_rules : (structures : List Row) (tag_names : List ℕ) (programs memory : ℕ) → List RowRule
tag_rules structures tag_names programs memory =
    row_rule 1 (symbol_name_stored (length tag_names))
    ∷ row_rule 201 (λ r. name_length (tag_name tag_names r))
    ∷ row_rule 202 (λ r. name_bytes (tag_name tag_names r))
    ∷ row_rule 2 (λ r. leb (tag_scope r) programs)
    ∷ row_rule 11 (λ r. is_mark (is_alias r))
    ∷ row_rule 102 (λ r. leb (tag_access r) 3)
    ∷ row_rule 301 (λ r. ltb 0 (tag_id r))
    ∷ row_rule 501 (λ r. is_type (length structures) (tag_type r))
    ∷ row_rule 502 (λ r. zeros_last (tag_lengths r))
    ∷ row_rule 503 has_elements
    ∷ row_rule 601 (λ r. leb (end_in structures r) memory)
    ∷ []

unfoldable pub other_rules : (names : List ℕ) (programs : ℕ) → List RowRule
other_rules names programs =
    row_rule 1 (symbol_name_stored (length names))
    ∷ row_rule 201 (λ r. other_length (other_name names r))
    ∷ row_rule 202 (λ r. name_bytes (other_name names r))
    ∷ row_rule 2 (λ r. leb (other_scope r) programs)
    ∷ row_rule 6 (λ r. is16 (other_type r))
    ∷ row_rule 301 (λ r. ltb 0 (other_id r))
    ∷ []

-- ---- rows that clash

-- T4: a member, all its array elements counted, ends in so many bytes
unfoldable pub ends_within : (structures : List Row) (size : ℕ) → Row → Bool
ends_within structures size r = leb (member_offset r + size_in structures (member_type r) * max 1 (member_length r)) size

unfoldable pub clashes : Tables → List Test
clashes t =
    member_of 404 t (λ i s r. is_type i (member_type r))
    ∷ member_of 405 t (λ i s r. ends_within t.structures (structure_size s) r)
    ∷ two 203 programs_table t.programs (program_names_differ t.names)
    ∷ two 203 tags_table t.tags (tag_names_differ t.tag_names)
    ∷ tags_others 203 t (other_names_differ t.tag_names t.names)
    ∷ two 302 tags_table t.tags ids_differ
    ∷ tags_others 302 t ids_differ
    ∷ two 302 others_table t.others ids_differ
    ∷ two 602 tags_table t.tags (apart t.structures)
    ∷ []

-- ---- all tests, and the first that is broken

unfoldable pub tests : Tables → (memory : ℕ) → List Test
tests t memory =
    counts t memory
    ++ map (each structures_table t.structures) (structure_rules t.names (length t.members) (length t.templates))
    ++ map (each members_table t.members) (member_rules t.names (length t.structures))
    ++ map (each programs_table t.programs) (program_rules t.names)
    ++ map (each tags_table t.tags) (tag_rules t.structures t.tag_names (length t.programs) memory)
    ++ map (each others_table t.others) (other_rules t.names (length t.programs))
    ++ clashes t

-- behind the last one nothing is tested
abbrev pub no_rule : RowRule
no_rule = row_rule 0 (λ r. true)

abbrev pub no_test : Test
no_test = each no_table [] no_rule

abbrev pub test_at : Tables → (memory : ℕ) → ℕ → Test
test_at t memory n = get_or (tests t memory) n no_test

-- what is told of rows i and j
abbrev pub tell : Test → (i j : ℕ) → Breach
tell x i j = record { rule = x.rule; table = x.table; row = j; other_table = x.other_table; other = i }

abbrev pub told_of : Test → (i j : ℕ) → Option Breach
told_of x i j = pick (x.holds i j) None (Some (tell x i j))

-- row i of the other table, against its rows
unfoldable pub row_breach : Test → ℕ → Option Breach
row_breach x i = first_of (told_of x i) (x.from i) (x.upto i - x.from i)

unfoldable pub test_breach : Test → Option Breach
test_breach x = first_of (row_breach x) 0 x.others

unfoldable pub breach : Tables → (memory : ℕ) → Option Breach
breach t memory = first_of (λ n. test_breach (test_at t memory n)) 0 (length (tests t memory))
