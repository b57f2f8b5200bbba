-- What the code tells of a table set, in the definition's numbers.
use Rattle.std.specs.Prelude.{ℕ, length, Option, None, Some}
use Rattle.definition.specs.Tables.{Tables}
use Rattle.definition.specs.Breach.{Breach as Defined, no_table, structures_table, members_table, programs_table, tags_table, others_table, tag_memory, template_store}
use Rattle.tables.specs.declared.rules.Breach.{Breach}
use Rattle.tables.specs.declared.rules.Place.{Place}
use Rattle.tables.specs.declared.rules.Rule.{Rule}
use Rattle.tables.specs.declared.rules.Rule.TheVariants.{NameStored, ScopeKnown, TypeKnown, TemplateIdFits, HandleFits, SymbolTypeFits, MembersStored, AoiMark, HiddenMark, LocalMark, AliasMark, Count, Access, NameLength, NameBytes, NameUnique, IdNonzero, IdUnique, StructureSize, TemplateStored, Bit, EarlierType, InsideStructure, TagType, LengthsFirst, Elements, InsideMemory, BytesApart}
use Rattle.tables.specs.declared.rules.Table.{Table}
use Rattle.tables.specs.declared.rules.Table.TheVariants.{Structures, Members, Programs, Tags, Others, Memory, Templates}

abbrev pub rule_number : Rule → ℕ
rule_number NameStored = 1
rule_number ScopeKnown = 2
rule_number TypeKnown = 3
rule_number TemplateIdFits = 4
rule_number HandleFits = 5
rule_number SymbolTypeFits = 6
rule_number MembersStored = 7
rule_number AoiMark = 8
rule_number HiddenMark = 9
rule_number LocalMark = 10
rule_number AliasMark = 11
rule_number Count = 101
rule_number Access = 102
rule_number NameLength = 201
rule_number NameBytes = 202
rule_number NameUnique = 203
rule_number IdNonzero = 301
rule_number IdUnique = 302
rule_number StructureSize = 401
rule_number TemplateStored = 402
rule_number Bit = 403
rule_number EarlierType = 404
rule_number InsideStructure = 405
rule_number TagType = 501
rule_number LengthsFirst = 502
rule_number Elements = 503
rule_number InsideMemory = 601
rule_number BytesApart = 602

abbrev pub table_number : Table → ℕ
table_number Structures = structures_table
table_number Members = members_table
table_number Programs = programs_table
table_number Tags = tags_table
table_number Others = others_table
table_number Memory = tag_memory
table_number Templates = template_store

-- the rows or bytes of a table, and T1's limit of them
abbrev pub count_in : Table → Tables → (memory : ℕ) → ℕ
count_in Structures t memory = length t.structures
count_in Members t memory = length t.members
count_in Programs t memory = length t.programs
count_in Tags t memory = length t.tags
count_in Others t memory = length t.others
count_in Memory t memory = memory
count_in Templates t memory = length t.templates

abbrev pub limit_of : Table → ℕ
limit_of Structures = 64
limit_of Members = 512
limit_of Programs = 16
limit_of Tags = 1024
limit_of Others = 64
limit_of Memory = 65536
limit_of Templates = 65536

-- the other row's table and the row, zeros where there is none
abbrev pub other_number : Option Table → ℕ
other_number None = no_table
other_number (Some table) = table_number table

abbrev pub place_table : Option Place → Option Table
place_table None = None
place_table (Some p) = Some p.table

abbrev pub place_row : Option Place → ℕ
place_row None = 0
place_row (Some p) = p.row

abbrev pub breach_of : Breach → Defined
breach_of b = record {
  rule = rule_number b.rule;
  table = table_number b.at.table;
  row = b.at.row;
  other_table = other_number (place_table b.other);
  other = place_row b.other;
}

abbrev pub told_of : Option Breach → Option Defined
told_of None = None
told_of (Some b) = Some (breach_of b)
