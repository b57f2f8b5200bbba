-- Document 01, "Type, member, tag": the atomic codes with their sizes, type words, the type header.
-- CIP Volume 1, Appendix C, defines the codes and sizes; 1756-PM020 the header 0xA0 0x02 with a structure's handle. A type word (an atomic code, or
-- 0x100 plus a structure's index) is this project's encoding.
use Rattle.std.specs.Prelude.{Bool, not, List, [], ◌∷◌, ℕ, ◌-◌, ◌*◌, ltb, leb, eqb, get_or}
use Rattle.std.specs.Int.Bits.{bit_or}
use Rattle.laws.specs.Pick.{pick, both, is_empty}
use Rattle.definition.specs.Bytes.{le16}
use Rattle.definition.specs.Tables.{Tables, Row, handle, structure_size, template_id, tag_type, lengths_of}

-- BOOL, SINT, INT, DINT, LINT, USINT, UINT, UDINT, ULINT, REAL, LREAL; BYTE, WORD, DWORD, LWORD; 0 for what is no atomic code [CIP]
unfoldable pub atomic_size : (code : ℕ) → ℕ
atomic_size code =
    pick (ltb code 0xC1) 0
    (pick (leb code 0xCB) (get_or (1 ∷ 1 ∷ 2 ∷ 4 ∷ 8 ∷ 1 ∷ 2 ∷ 4 ∷ 8 ∷ 4 ∷ 8 ∷ []) (code - 0xC1) 0)
    (pick (ltb code 0xD1) 0
    (pick (leb code 0xD4) (get_or (1 ∷ 2 ∷ 4 ∷ 8 ∷ []) (code - 0xD1) 0) 0)))

-- [CIP]
abbrev pub is_atomic : ℕ → Bool
is_atomic code = ltb 0 (atomic_size code)

-- [CIP]
abbrev pub BOOL : ℕ
BOOL = 0xC1

-- [CIP]
abbrev pub REAL : ℕ
REAL = 0xCA

-- [CIP]
abbrev pub LREAL : ℕ
LREAL = 0xCB

-- [CIP]
abbrev pub DWORD : ℕ
DWORD = 0xD3

-- what a masked write may change: an atomic type other than BOOL, REAL and LREAL [01]
unfoldable pub has_bits : ℕ → Bool
has_bits type = both (is_atomic type) (both (not (eqb type BOOL)) (both (not (eqb type REAL)) (not (eqb type LREAL))))

-- a DWORD tag with at least one length holds a BOOL array [PM020]
unfoldable pub is_dword_array : Row → Bool
is_dword_array r = both (eqb (tag_type r) DWORD) (not (is_empty (lengths_of r)))

-- ---- type words

-- [01]
abbrev pub is_structure : (type : ℕ) → Bool
is_structure type = leb 0x100 type

-- [01]
abbrev pub structure_in : (structures : List Row) (type : ℕ) → Row
structure_in structures type = get_or structures (type - 0x100) []

-- [01]
abbrev pub structure_of : Tables → (type : ℕ) → Row
structure_of t type = structure_in t.structures type

-- the bytes of one element [01]
unfoldable pub size_in : (structures : List Row) (type : ℕ) → ℕ
size_in structures type = pick (is_structure type) (structure_size (structure_in structures type)) (atomic_size type)

-- [01]
abbrev pub element_size : Tables → (type : ℕ) → ℕ
element_size t type = size_in t.structures type

-- code and 0, or 0xA0 0x02 and the 16-bit structure handle [PM020]
unfoldable pub type_header : (structures : List Row) (type : ℕ) → List ℕ
type_header structures type = pick (is_structure type) (0xA0 ∷ 0x02 ∷ le16 (handle (structure_in structures type))) (type ∷ 0 ∷ [])

-- the symbol type: the code, or 0x8000 OR template ID, OR number of lengths × 0x2000 (1756-PM020, Symbol object, attribute 2) [PM020]
unfoldable pub symbol_type : (structures : List Row) (type lengths : ℕ) → ℕ
symbol_type structures type lengths =
    bit_or (pick (is_structure type) (bit_or (template_id (structure_in structures type)) 0x8000) type) (lengths * 0x2000)
