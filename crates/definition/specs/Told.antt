-- What is promised of `breach`: nothing is told exactly of valid tables, and what is told of a row is true of it, rule by rule. Each field of `Says` is a
-- theorem.
use Rattle.std.specs.Prelude.{◌≡◌, ◌≢◌, ◌⊎◌, ◌↔◌, true, false, List, [], ℕ, ◌+◌, ◌*◌, ◌≤◌, ◌<◌, max, eqb, length, get_or}
use Rattle.std.specs.Prelude.{Option, None, Some}
use Rattle.laws.specs.Pick.{pick}
use Rattle.definition.specs.Names.{same_name, after_prefix}
use Rattle.definition.specs.Tables.{Tables, Row, end_of_name, end_of_symbol_name, first_length, second_length, third_length, structure_name, template_id, handle, structure_size, first_member, member_count, is_aoi, template_start, template_length, member_type, member_length, member_offset, member_bit, is_hidden, is_local, member_access, symbol_scope, symbol_id, tag_name, tag_type, lengths_of, tag_elements, tag_access, is_alias, tag_offset, other_name, other_type}
use Rattle.definition.specs.Types.{is_atomic, size_in}
use Rattle.definition.specs.Valid.{valid, product, is_bool_array, end_in}
use Rattle.definition.specs.Breach.{Breach, row_at, structures_table, members_table, programs_table, tags_table, others_table, tag_memory, template_store, breach}

abbrev pub NoneExactlyWhereValid : Type 0
NoneExactlyWhereValid = (t : Tables) (memory : ℕ) → breach t memory ≡ None ↔ valid t memory ≡ true

-- ---- a table by its number: its rows, how many rows or bytes it has and may have, its row's name and the store of its names

abbrev pub rows_of : Tables → (table : ℕ) → List Row
rows_of t table =
    pick (eqb table structures_table) t.structures (pick (eqb table members_table) t.members (pick (eqb table programs_table) t.programs
    (pick (eqb table tags_table) t.tags (pick (eqb table others_table) t.others []))))

abbrev pub count_of : Tables → (memory table : ℕ) → ℕ
count_of t memory table =
    pick (eqb table tag_memory) memory (pick (eqb table template_store) (length t.templates) (length (rows_of t table)))

abbrev pub limit_of : (table : ℕ) → ℕ
limit_of table =
    pick (eqb table structures_table) 64 (pick (eqb table members_table) 512 (pick (eqb table programs_table) 16
    (pick (eqb table tags_table) 1024 (pick (eqb table others_table) 64 65536))))

abbrev pub store_of : Tables → (table : ℕ) → List ℕ
store_of t table = pick (eqb table tags_table) t.tag_names t.names

abbrev pub name_of : Tables → (table : ℕ) → Row → List ℕ
name_of t table r =
    pick (eqb table tags_table) (tag_name t.tag_names r) (pick (eqb table others_table) (other_name t.names r) (structure_name t.names r))

-- the bytes of a row's name that T2 counts: of an other symbol's those after its prefix
abbrev pub behind : (name : List ℕ) (after : Option (List ℕ)) → List ℕ
behind name (Some rest) = rest
behind name None = name

abbrev pub counted_of : Tables → (table : ℕ) → Row → List ℕ
counted_of t table r = pick (eqb table others_table) (behind (name_of t table r) (after_prefix (name_of t table r))) (name_of t table r)

-- where a row's name ends in its store
abbrev pub name_end : (table : ℕ) → Row → ℕ
name_end table r =
    pick (eqb table tags_table) (end_of_symbol_name r) (pick (eqb table others_table) (end_of_symbol_name r) (end_of_name r))

abbrev pub access_of : (table : ℕ) → Row → ℕ
access_of table r = pick (eqb table tags_table) (tag_access r) (member_access r)

-- ---- what the words of a rule mean

-- no atomic code, and no structure below this index
abbrev pub NoType : (bound type : ℕ) → Type 0
NoType bound type = ((type < 0x100) × (is_atomic type ≡ false)) ⊎ (0x100 + bound ≤ type)

pub record OddByte (name : List ℕ) : Type 0 where
  pub at : ℕ
  pub in_name : at < length name
  pub odd : (get_or name at 0 < 0x20) ⊎ (0x7E < get_or name at 0)

pub record SharedByte (structures : List Row) (a b : Row) : Type 0 where
  pub byte : ℕ
  pub in_first : (tag_offset a ≤ byte) × (byte < end_in structures a)
  pub in_second : (tag_offset b ≤ byte) × (byte < end_in structures b)

-- a length of 0 with a length behind it
abbrev pub ZeroBetween : Row → Type 0
ZeroBetween r =
    ((first_length r ≡ 0) × ((0 < second_length r) ⊎ (0 < third_length r)))
    ⊎ ((second_length r ≡ 0) × (0 < third_length r))

-- ---- what is told is true: of the row r, and of the row s that it clashes with

module _ (t : Tables) (memory : ℕ) (b : Breach) where
  abbrev pub told_row : Row
  told_row = row_at (rows_of t b.table) b.row

  abbrev pub clash_row : Row
  clash_row = row_at (rows_of t b.other_table) b.other

  -- two rows of one table are two: the one told is the later one
  abbrev pub Later : Type 0
  Later = b.table ≡ b.other_table → b.other < b.row

  -- the row told is one of the members of the structure that it is told with
  abbrev pub ItsMember : Type 0
  ItsMember = (first_member clash_row ≤ b.row) × (b.row < first_member clash_row + member_count clash_row)

  pub record Says : Type 0 where
    pub stands : b.row < count_of t memory b.table
    -- the encoding
    pub name_not_stored : b.rule ≡ 1 → length (store_of t b.table) < name_end b.table told_row
    pub no_such_scope : b.rule ≡ 2 → length t.programs < symbol_scope told_row
    pub member_no_type : b.rule ≡ 3 → NoType (length t.structures) (member_type told_row)
    pub template_id_wide : b.rule ≡ 4 → 65535 < template_id told_row
    pub handle_wide : b.rule ≡ 5 → 65535 < handle told_row
    pub symbol_type_wide : b.rule ≡ 6 → 65535 < other_type told_row
    pub members_not_stored : b.rule ≡ 7 → length t.members < first_member told_row + member_count told_row
    pub aoi_no_mark : b.rule ≡ 8 → 1 < is_aoi told_row
    pub hidden_no_mark : b.rule ≡ 9 → 1 < is_hidden told_row
    pub local_no_mark : b.rule ≡ 10 → 1 < is_local told_row
    pub alias_no_mark : b.rule ≡ 11 → 1 < is_alias told_row
    -- T1: the first row or byte too many; an access above 3
    pub too_many : b.rule ≡ 101 → b.row ≡ limit_of b.table
    pub access_high : b.rule ≡ 102 → 3 < access_of b.table told_row
    -- T2: a name of no bytes, or of more than 40 that count; a byte of it below 0x20 or above 0x7E; the same name, in one scope unless they are programs
    pub name_length : b.rule ≡ 201 → (length (name_of t b.table told_row) ≡ 0) ⊎ (40 < length (counted_of t b.table told_row))
    pub name_byte : b.rule ≡ 202 → OddByte (name_of t b.table told_row)
    pub has_same_name : b.rule ≡ 203
        → (same_name (name_of t b.other_table clash_row) (name_of t b.table told_row) ≡ true)
        × (b.table ≢ programs_table → symbol_scope clash_row ≡ symbol_scope told_row) × Later
    -- T3
    pub id_zero : b.rule ≡ 301 → symbol_id told_row ≡ 0
    pub same_id : b.rule ≡ 302 → (symbol_scope clash_row ≡ symbol_scope told_row) × (symbol_id clash_row ≡ symbol_id told_row) × Later
    -- T4: a structure's size and template; a member's bit, its type and its place in its structure
    pub size_of_structure : b.rule ≡ 401 → (structure_size told_row ≡ 0) ⊎ (65535 < structure_size told_row)
    pub template_not_stored : b.rule ≡ 402 → length t.templates < template_start told_row + template_length told_row
    pub bit_high : b.rule ≡ 403 → 8 < member_bit told_row
    pub type_not_earlier : b.rule ≡ 404 → NoType b.other (member_type told_row) × ItsMember
    pub not_inside : b.rule ≡ 405
        → (structure_size clash_row < member_offset told_row + size_in t.structures (member_type told_row) * max 1 (member_length told_row)) × ItsMember
    -- T5
    pub tag_no_type : b.rule ≡ 501 → NoType (length t.structures) (tag_type told_row)
    pub zero_between : b.rule ≡ 502 → ZeroBetween told_row
    pub elements_wrong : b.rule ≡ 503 → (tag_elements told_row ≢ product (lengths_of told_row)) × (is_bool_array told_row ≡ false)
    -- T6
    pub past_memory : b.rule ≡ 601 → memory < end_in t.structures told_row
    pub shared_byte : b.rule ≡ 602 → SharedByte t.structures clash_row told_row × Later

abbrev pub WhatIsToldIsTrue : Type 0
WhatIsToldIsTrue = (t : Tables) (memory : ℕ) (b : Breach) → breach t memory ≡ Some b → Says t memory b
