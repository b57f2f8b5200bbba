-- The validity of a table set as the code judges it: all tests of a row at once, and all tests of two rows at once. `Regrouped` of the proofs shows
-- that this is the definition's `valid`.
use Rattle.std.specs.Prelude.{Bool, true, List, ℕ, ◌+◌, ◌*◌, ltb, leb, eqb, length}
use Rattle.laws.specs.Pick.{pick, both}
use Rattle.laws.specs.Tests.{every, every_from, pairs}
use Rattle.definition.specs.Bytes.{part}
use Rattle.definition.specs.Tables.{Tables, Row, field, template_id, handle, first_member, member_count, is_aoi, member_type, member_bit, no_bit, is_hidden, is_local, member_access, tag_scope, tag_id, tag_access, is_alias, other_scope, other_name, other_id, other_type}
use Rattle.definition.specs.Valid.{symbol_name_stored, is_mark, is_type, is16, is_name, is_other_name, tag_names_differ, other_names_differ, program_names_differ, ids_differ, structure_fits, tag_fits, end_in, apart}

-- a name that stands in its store and is one
unfoldable pub name_judged : (store : List ℕ) (start size : ℕ) → Bool
name_judged store start size = both (leb (start + size) (length store)) (is_name (part store start size))

-- ---- a row, its tests in the code's order

unfoldable pub structure_named : (names : List ℕ) → Row → Bool
structure_named names r =
    both (name_judged names (field 0 r) (field 1 r)) (both (is16 (template_id r)) (both (is16 (handle r)) (is_mark (is_aoi r))))

unfoldable pub structure_judged : (structures members : List Row) (names : List ℕ) (templates : ℕ) (index : ℕ) → Row → Bool
structure_judged structures members names templates i r =
    both (structure_named names r) (both (leb (first_member r + member_count r) (length members)) (structure_fits structures members templates i r))

unfoldable pub member_judged : (names : List ℕ) (structures : ℕ) → Row → Bool
member_judged names structures r =
    both (name_judged names (field 0 r) (field 1 r)) (both (is_type structures (member_type r)) (both (is_mark (is_hidden r)) (both (is_mark (is_local r))
    (both (leb (member_access r) 3) (leb (member_bit r) no_bit)))))

unfoldable pub program_judged : (names : List ℕ) → Row → Bool
program_judged names r = name_judged names (field 0 r) (field 1 r)

unfoldable pub tag_judged : (structures : List Row) (tag_names : List ℕ) (programs memory : ℕ) → Row → Bool
tag_judged structures tag_names programs memory r =
    both (leb (tag_scope r) programs) (both (name_judged tag_names (field 1 r) (field 2 r)) (both (is_mark (is_alias r)) (both (leb (tag_access r) 3)
    (both (ltb 0 (tag_id r)) (both (tag_fits (length structures) r) (leb (end_in structures r) memory))))))

unfoldable pub other_named : (names : List ℕ) → Row → Bool
other_named names r = both (symbol_name_stored (length names) r) (is_other_name (other_name names r))

unfoldable pub other_judged : (names : List ℕ) (programs : ℕ) → Row → Bool
other_judged names programs r =
    both (leb (other_scope r) programs) (both (other_named names r) (both (is16 (other_type r)) (ltb 0 (other_id r))))

-- ---- two rows

unfoldable pub tag_pair : (structures : List Row) (tag_names : List ℕ) → Row → Row → Bool
tag_pair structures tag_names a b = both (tag_names_differ tag_names a b) (both (ids_differ a b) (apart structures a b))

unfoldable pub tag_other : (tag_names names : List ℕ) → Row → Row → Bool
tag_other tag_names names a b = both (other_names_differ tag_names names a b) (ids_differ a b)

-- ---- all of it

unfoldable pub counts7 : (structures members programs tags others memory templates : ℕ) → Bool
counts7 structures members programs tags others memory templates =
    both (leb structures 64) (both (leb members 512) (both (leb programs 16) (both (leb tags 1024) (both (leb others 64)
    (both (leb memory 65536) (leb templates 65536))))))

abbrev pub few_enough : Tables → (memory : ℕ) → Bool
few_enough t memory =
    counts7 (length t.structures) (length t.members) (length t.programs) (length t.tags) (length t.others) memory (length t.templates)

unfoldable pub pairs_judged : (structures programs tags others : List Row) (names tag_names : List ℕ) → Bool
pairs_judged structures programs tags others names tag_names =
    both (pairs (tag_pair structures tag_names) tags)
    (both (every (λ r. every (tag_other tag_names names r) others) tags)
    (both (pairs ids_differ others) (pairs (program_names_differ names) programs)))

-- each row by itself, then each two rows
unfoldable pub judged : Tables → (memory : ℕ) → Bool
judged t memory =
    both (few_enough t memory)
    (both (every_from (structure_judged t.structures t.members t.names (length t.templates)) 0 t.structures)
    (both (every (member_judged t.names (length t.structures)) t.members)
    (both (every (program_judged t.names) t.programs)
    (both (every (tag_judged t.structures t.tag_names (length t.programs) memory) t.tags)
    (both (every (other_judged t.names (length t.programs)) t.others)
    (pairs_judged t.structures t.programs t.tags t.others t.names t.tag_names))))))

-- ---- three lengths as numbers

abbrev pub zeros_last3 : (a b c : ℕ) → Bool
zeros_last3 a b c = pick (eqb a 0) (both (eqb b 0) (eqb c 0)) (pick (eqb b 0) (eqb c 0) true)

-- the product of the nonzero ones, up to the first zero
abbrev pub product3 : (a b c : ℕ) → ℕ
product3 a b c = pick (eqb a 0) 1 (pick (eqb b 0) a (pick (eqb c 0) (a * b) (a * b * c)))
