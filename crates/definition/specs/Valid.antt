-- Document 01, "Type, member, tag", T1 to T6, one test each, and item 4: the tables' encoding in rows.
-- All of it is document 01's alone, but for the names of other symbols in T2: document 02, P2. A row's words have 32 bits by their type.
use Rattle.std.specs.Prelude.{Bool, not, true, List, [], ◌∷◌, ℕ, ◌+◌, ◌*◌, ◌-◌, max, ltb, leb, eqb, length}
use Rattle.std.specs.Prelude.{Option, None, Some}
use Rattle.laws.specs.Pick.{pick, ◌&◌, either}
use Rattle.laws.specs.Tests.{every, every_from, pairs}
use Rattle.definition.specs.Names.{same_name, after_prefix}
use Rattle.definition.specs.Tables.{Tables, Row, end_of_name, end_of_symbol_name, structure_name, template_id, handle, structure_size, first_member, member_count, is_aoi, template_start, template_length, members_in, member_name, member_type, member_length, member_offset, member_bit, no_bit, is_hidden, is_local, member_access, program_name, tag_scope, tag_name, tag_id, tag_type, tag_lengths, first_length, lengths_of, tag_elements, tag_access, is_alias, tag_offset, other_scope, other_name, other_id, other_type, symbol_scope, symbol_id}
use Rattle.definition.specs.Types.{is_atomic, is_structure, size_in, DWORD}

-- ---- the encoding: a row is a record

-- a name stands in its store of so many bytes: that of a structure, a member or a program, and that of a symbol
abbrev pub name_stored : (store : ℕ) → Row → Bool
name_stored store r = leb (end_of_name r) store

abbrev pub symbol_name_stored : (store : ℕ) → Row → Bool
symbol_name_stored store r = leb (end_of_symbol_name r) store

abbrev pub is_mark : ℕ → Bool
is_mark m = leb m 1

-- an atomic code, or a structure below this index
unfoldable pub is_type : (bound type : ℕ) → Bool
is_type bound type = pick (is_structure type) (ltb (type - 0x100) bound) (is_atomic type)

abbrev pub is16 : ℕ → Bool
is16 n = leb n 65535

-- the numbers are those of the bytes of the store of names, and of the rows of another table
unfoldable pub structure_encoded : (names members : ℕ) → Row → Bool
structure_encoded names members r =
    name_stored names r
    & is16 (template_id r)
    & is16 (handle r)
    & leb (first_member r + member_count r) members
    & is_mark (is_aoi r)

unfoldable pub member_encoded : (names structures : ℕ) → Row → Bool
member_encoded names structures r =
    name_stored names r
    & is_type structures (member_type r)
    & is_mark (is_hidden r)
    & is_mark (is_local r)

-- a scope is 0, or k + 1 for program k
unfoldable pub tag_encoded : (tag_names programs : ℕ) → Row → Bool
tag_encoded tag_names programs r =
    leb (tag_scope r) programs
    & symbol_name_stored tag_names r
    & is_mark (is_alias r)

unfoldable pub other_encoded : (names programs : ℕ) → Row → Bool
other_encoded names programs r =
    leb (other_scope r) programs
    & symbol_name_stored names r
    & is16 (other_type r)

unfoldable pub encoded : Tables → Bool
encoded t =
    let names = length t.names in
    every (structure_encoded names (length t.members)) t.structures
    & every (member_encoded names (length t.structures)) t.members
    & every (name_stored names) t.programs
    & every (tag_encoded (length t.tag_names) (length t.programs)) t.tags
    & every (other_encoded names (length t.programs)) t.others

-- ---- T1

unfoldable pub t1 : Tables → (memory : ℕ) → Bool
t1 t memory =
    leb (length t.structures) 64
    & leb (length t.members) 512
    & leb (length t.programs) 16
    & leb (length t.tags) 1024
    & leb (length t.others) 64
    & leb memory 65536
    & leb (length t.templates) 65536
    & every (λ r. leb (tag_access r) 3) t.tags
    & every (λ r. leb (member_access r) 3) t.members

-- ---- T2

unfoldable pub is_name : List ℕ → Bool
is_name name =
    ltb 0 (length name)
    & leb (length name) 40
    & every (λ b. leb 0x20 b & leb b 0x7E) name

-- P2: an other symbol may have 0 to 40 bytes after `Program:`, `Routine:` or `Task:`, and has 1 to 40 in all without such a prefix
unfoldable pub length_by : (name : List ℕ) (after : Option (List ℕ)) → Bool
length_by name (Some rest) = leb (length rest) 40
length_by name None = ltb 0 (length name) & leb (length name) 40

unfoldable pub other_length : List ℕ → Bool
other_length name = length_by name (after_prefix name)

unfoldable pub is_other_name : List ℕ → Bool
is_other_name name = other_length name & every (λ b. leb 0x20 b & leb b 0x7E) name

-- two symbols of one scope have different names
unfoldable pub tag_names_differ : (tag_names : List ℕ) → Row → Row → Bool
tag_names_differ tag_names a b = not (eqb (tag_scope a) (tag_scope b) & same_name (tag_name tag_names a) (tag_name tag_names b))

unfoldable pub other_names_differ : (tag_names names : List ℕ) → Row → Row → Bool
other_names_differ tag_names names a b = not (eqb (tag_scope a) (other_scope b) & same_name (tag_name tag_names a) (other_name names b))

unfoldable pub program_names_differ : (names : List ℕ) → Row → Row → Bool
program_names_differ names a b = not (same_name (program_name names a) (program_name names b))

unfoldable pub t2 : Tables → Bool
t2 t =
    every (λ r. is_name (structure_name t.names r)) t.structures
    & every (λ r. is_name (member_name t.names r)) t.members
    & every (λ r. is_name (program_name t.names r)) t.programs
    & every (λ r. is_name (tag_name t.tag_names r)) t.tags
    & every (λ r. is_other_name (other_name t.names r)) t.others
    & pairs (tag_names_differ t.tag_names) t.tags
    & every (λ r. every (other_names_differ t.tag_names t.names r) t.others) t.tags
    & pairs (program_names_differ t.names) t.programs

-- ---- T3

-- two symbols, tags or others, of one scope have different IDs
unfoldable pub ids_differ : Row → Row → Bool
ids_differ a b = not (eqb (symbol_scope a) (symbol_scope b) & eqb (symbol_id a) (symbol_id b))

unfoldable pub t3 : Tables → Bool
t3 t =
    every (λ r. ltb 0 (tag_id r)) t.tags
    & every (λ r. ltb 0 (other_id r)) t.others
    & pairs ids_differ t.tags
    & pairs ids_differ t.others
    & every (λ r. every (ids_differ r) t.others) t.tags

-- ---- T4

-- all array elements counted, inside its structure; atomic or of an earlier structure; a bit of 0 to 7, or none
unfoldable pub member_fits : (structures : List Row) (index size : ℕ) → Row → Bool
member_fits structures i size r =
    is_type i (member_type r)
    & leb (member_offset r + size_in structures (member_type r) * max 1 (member_length r)) size
    & leb (member_bit r) no_bit

-- its template is a part of a store of so many bytes
unfoldable pub structure_fits : (structures members : List Row) (templates : ℕ) (index : ℕ) → Row → Bool
structure_fits structures members templates i r =
    ltb 0 (structure_size r)
    & leb (structure_size r) 65535
    & leb (template_start r + template_length r) templates
    & every (member_fits structures i (structure_size r)) (members_in members r)

-- each structure with its index; a member that no structure has is a record too: its bit is 0 to 7, or none
unfoldable pub t4 : Tables → Bool
t4 t =
    every_from (structure_fits t.structures t.members (length t.templates)) 0 t.structures
    & every (λ r. leb (member_bit r) no_bit) t.members

-- ---- T5

abbrev pub product : List ℕ → ℕ
product [] = 1
product (n ∷ ns) = n * product ns

unfoldable pub zeros_last : List ℕ → Bool
zeros_last [] = true
zeros_last (n ∷ ns) = pick (eqb n 0) (every (λ k. eqb k 0) ns) (zeros_last ns)

-- a DWORD tag with one length 32k may have k elements
unfoldable pub is_bool_array : Row → Bool
is_bool_array r =
    eqb (tag_type r) DWORD
    & eqb (length (lengths_of r)) 1
    & eqb (tag_elements r * 32) (first_length r)

unfoldable pub tag_fits : (structures : ℕ) → Row → Bool
tag_fits structures r =
    is_type structures (tag_type r)
    & zeros_last (tag_lengths r)
    & either (eqb (tag_elements r) (product (lengths_of r))) (is_bool_array r)

unfoldable pub t5 : Tables → Bool
t5 t = every (tag_fits (length t.structures)) t.tags

-- ---- T6

abbrev pub end_in : (structures : List Row) → Row → ℕ
end_in structures r = tag_offset r + tag_elements r * size_in structures (tag_type r)

abbrev pub tag_end : Tables → Row → ℕ
tag_end t r = end_in t.structures r

unfoldable pub apart : (structures : List Row) → Row → Row → Bool
apart structures a b = either (leb (end_in structures a) (tag_offset b)) (leb (end_in structures b) (tag_offset a))

unfoldable pub t6 : Tables → (memory : ℕ) → Bool
t6 t memory =
    every (λ r. leb (tag_end t r) memory) t.tags
    & pairs (apart t.structures) t.tags

-- ---- all of them, for a tag memory of this length

unfoldable pub valid : Tables → (memory : ℕ) → Bool
valid t memory =
    encoded t
    & t1 t memory
    & t2 t
    & t3 t
    & t4 t
    & t5 t
    & t6 t memory
