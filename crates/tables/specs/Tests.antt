-- The code's tests as the definition has them: each is the one that stands at its place in the definition's list.
use Rattle.std.specs.Prelude.{◌≡◌, Bool, true, List, [], ◌∷◌, ℕ, ◌+◌, ◌<◌, leb, eqb, get_or, length, Option, None, Some}
use Rattle.laws.specs.Pick.{pick}
use Rattle.definition.specs.Bytes.{part}
use Rattle.definition.specs.Tables.{Tables, Row}
use Rattle.definition.specs.Breach.{Breach as Defined, RowRule, name_length, name_bytes, Test as DefinedTest, row_rule, most, each, no_test, tell, structure_rules, member_rules, program_rules, tag_rules, other_rules, clashes, structures_table, members_table, programs_table, tags_table, others_table}
use Rattle.tables.specs.declared.rules.Rule.{Rule}
use Rattle.tables.specs.declared.rules.Rule.TheVariants as rule
use Rattle.tables.specs.declared.rules.Table.{Table}
use Rattle.tables.specs.declared.rules.Table.TheVariants as table
use Rattle.tables.specs.declared.test.Test.{Test}
use Rattle.tables.specs.declared.test.Test.TheVariants.{Count, Structure, Member, Program, Tag, Other, EarlierType, InsideStructure, ProgramNames, TagNames, TagOtherNames, TagIds, TagOtherIds, OtherIds, TagBytes}
use Rattle.tables.specs.Rules.{rule_number, table_number, count_in, limit_of}

-- what the rule of a number says of a row; where there is no such rule, nothing is asked
abbrev pub passes : List RowRule → (number : ℕ) → Row → Bool
passes [] number r = true
passes (x ∷ xs) number r = pick (eqb x.rule number) (x.passes r) (passes xs number r)

-- of a name, by its store and two columns of its row, where it is a rule of names
unfoldable pub name_passes : (store : List ℕ) (start size : ℕ) → Rule → Bool
name_passes store start size x =
    pick (eqb 1 (rule_number x)) (leb (start + size) (length store))
    (pick (eqb 201 (rule_number x)) (name_length (part store start size)) (pick (eqb 202 (rule_number x)) (name_bytes (part store start size)) true))

unfoldable pub structure_passes : Tables → Rule → Row → Bool
structure_passes t x = passes (structure_rules t.names (length t.members) (length t.templates)) (rule_number x)

unfoldable pub member_passes : Tables → Rule → Row → Bool
member_passes t x = passes (member_rules t.names (length t.structures)) (rule_number x)

unfoldable pub program_passes : Tables → Rule → Row → Bool
program_passes t x = passes (program_rules t.names) (rule_number x)

unfoldable pub tag_passes : Tables → (memory : ℕ) → Rule → Row → Bool
tag_passes t memory x = passes (tag_rules t.structures t.tag_names (length t.programs) memory) (rule_number x)

unfoldable pub other_passes : Tables → Rule → Row → Bool
other_passes t x = passes (other_rules t.names (length t.programs)) (rule_number x)

abbrev pub test_of : Test → Tables → (memory : ℕ) → DefinedTest
test_of (Count x) t memory = most (table_number x) (count_in x t memory) (limit_of x)
test_of (Structure x) t memory = each structures_table t.structures (row_rule (rule_number x) (structure_passes t x))
test_of (Member x) t memory = each members_table t.members (row_rule (rule_number x) (member_passes t x))
test_of (Program x) t memory = each programs_table t.programs (row_rule (rule_number x) (program_passes t x))
test_of (Tag x) t memory = each tags_table t.tags (row_rule (rule_number x) (tag_passes t memory x))
test_of (Other x) t memory = each others_table t.others (row_rule (rule_number x) (other_passes t x))
test_of EarlierType t memory = get_or (clashes t) 0 no_test
test_of InsideStructure t memory = get_or (clashes t) 1 no_test
test_of ProgramNames t memory = get_or (clashes t) 2 no_test
test_of TagNames t memory = get_or (clashes t) 3 no_test
test_of TagOtherNames t memory = get_or (clashes t) 4 no_test
test_of TagIds t memory = get_or (clashes t) 5 no_test
test_of TagOtherIds t memory = get_or (clashes t) 6 no_test
test_of OtherIds t memory = get_or (clashes t) 7 no_test
test_of TagBytes t memory = get_or (clashes t) 8 no_test

-- a test's rule, its table and the other row's
abbrev pub rule_of : Test → Rule
rule_of (Count x) = rule.Count
rule_of (Structure x) = x
rule_of (Member x) = x
rule_of (Program x) = x
rule_of (Tag x) = x
rule_of (Other x) = x
rule_of EarlierType = rule.EarlierType
rule_of InsideStructure = rule.InsideStructure
rule_of ProgramNames = rule.NameUnique
rule_of TagNames = rule.NameUnique
rule_of TagOtherNames = rule.NameUnique
rule_of TagIds = rule.IdUnique
rule_of TagOtherIds = rule.IdUnique
rule_of OtherIds = rule.IdUnique
rule_of TagBytes = rule.BytesApart

abbrev pub table_of : Test → Table
table_of (Count x) = x
table_of (Structure x) = table.Structures
table_of (Member x) = table.Members
table_of (Program x) = table.Programs
table_of (Tag x) = table.Tags
table_of (Other x) = table.Others
table_of EarlierType = table.Members
table_of InsideStructure = table.Members
table_of ProgramNames = table.Programs
table_of TagNames = table.Tags
table_of TagOtherNames = table.Others
table_of TagIds = table.Tags
table_of TagOtherIds = table.Others
table_of OtherIds = table.Others
table_of TagBytes = table.Tags

abbrev pub other_of : Test → Option Table
other_of (Count x) = None
other_of (Structure x) = None
other_of (Member x) = None
other_of (Program x) = None
other_of (Tag x) = None
other_of (Other x) = None
other_of EarlierType = Some table.Structures
other_of InsideStructure = Some table.Structures
other_of ProgramNames = Some table.Programs
other_of TagNames = Some table.Tags
other_of TagOtherNames = Some table.Tags
other_of TagIds = Some table.Tags
other_of TagOtherIds = Some table.Tags
other_of OtherIds = Some table.Others
other_of TagBytes = Some table.Tags

-- what is told of a test is the definition's, whatever the tables
abbrev pub Tells : Test → (i j : ℕ) → Defined → Type 0
Tells x i j b = (t : Tables) (memory : ℕ) → i < (test_of x t memory).others → b ≡ tell (test_of x t memory) i j
