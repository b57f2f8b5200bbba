-- Document 01, item 17: writes, plain (0x4D) and fragmented (0x53), of values and of single bits.
-- 1756-PM020 (Write Tag, Write Tag Fragmented) defines the request's fields; document 01 alone the checks' order and a bit's rules.
use Rattle.std.specs.Prelude.{Bool, List, [], ◌∷◌, ℕ, ◌+◌, ◌-◌, ◌*◌, ◌^◌, ltb, leb, eqb, length, get_or, drop}
use Rattle.std.specs.Int.Bits.{bit_or, bit_and}
use Rattle.laws.specs.Pick.{pick, both}
use Rattle.laws.specs.Put.{put}
use Rattle.definition.specs.Bytes.{u16_at, u32_at}
use Rattle.definition.specs.Reply.{Status, Answer, answered, fail, success, too_short, too_long, no_elements, beyond_end, wrong_type}
use Rattle.definition.specs.Tables.{Row, handle, no_bit}
use Rattle.definition.specs.Types.{BOOL, is_structure, structure_in, size_in}
use Rattle.definition.specs.Resolve.{Target}

-- a write stores bytes in tag memory from a position on, or is turned away and stores nothing
pub data Stored : Type 0 where
  store : (at : ℕ) (bytes : List ℕ) → Stored
  no_store : Status → Stored

-- [01]
abbrev pub store_answer : (service : ℕ) → Stored → (memory : List ℕ) → Answer
store_answer service (store at bytes) memory = answered (fail service success) (put memory at bytes)
store_answer service (no_store status) memory = answered (fail service status) memory

-- ---- the fields: a type of 16 bits; a handle, if the type is exactly 0x02A0; the element count; for 0x53 an offset of 32 bits; the value

pub record Fields : Type 0 where
  pub type : ℕ
  pub handle : ℕ
  pub elements : ℕ
  pub offset : ℕ
  pub value : List ℕ

-- [PM020]
abbrev pub structure_code : ℕ
structure_code = 0x02A0

-- [PM020]
abbrev pub offset_size : (service : ℕ) → ℕ
offset_size service = pick (eqb service 0x53) 4 0

-- the bytes of type and handle [PM020]
abbrev pub type_size : (body : List ℕ) → ℕ
type_size body = pick (eqb (u16_at body 0) structure_code) 4 2

-- [PM020]
abbrev pub fields_size : (service : ℕ) (body : List ℕ) → ℕ
fields_size service body = type_size body + 2 + offset_size service

-- [PM020]
unfoldable pub fields_of : (service : ℕ) (body : List ℕ) → Fields
fields_of service body = record {
  type = u16_at body 0;
  handle = u16_at body 2;
  elements = u16_at body (type_size body);
  offset = pick (eqb service 0x53) (u32_at body (type_size body + 2)) 0;
  value = drop (fields_size service body) body;
}

-- ---- a bit: any nonzero byte sets it; the offset of 0x53 is ignored

-- [01]
unfoldable pub with_bit : (b k value : ℕ) → ℕ
with_bit b k value = pick (eqb value 0) (bit_and b (255 - 2 ^ k)) (bit_or b (2 ^ k))

-- [01]
unfoldable pub write_bit : (memory : List ℕ) → Target → Fields → Stored
write_bit memory g w =
    pick (eqb w.type BOOL)
    (pick (eqb w.elements 1)
    (pick (ltb (length w.value) 1) (no_store too_short)
    (pick (ltb 1 (length w.value)) (no_store too_long)
    (store g.start (with_bit (get_or memory g.start 0) g.bit (get_or w.value 0 0) ∷ []))))
    (no_store beyond_end))
    (no_store wrong_type)

-- ---- a value

-- the type that the target has: its code, or 0x02A0 with its structure's handle [01]
unfoldable pub type_matches : (structures : List Row) → Target → Fields → Bool
type_matches structures g w =
    pick (is_structure g.type) (both (eqb w.type structure_code) (eqb w.handle (handle (structure_in structures g.type)))) (eqb w.type g.type)

-- 0x4D: all of it; 0x53: a part of it from the offset [01]
unfoldable pub write_part : (service : ℕ) → Target → Fields → (total : ℕ) → Stored
write_part service g w total =
    pick (eqb service 0x53)
    (pick (leb total w.offset) (no_store beyond_end)
    (pick (ltb total (w.offset + length w.value)) (no_store too_long) (store (g.start + w.offset) w.value)))
    (pick (ltb (length w.value) total) (no_store too_short)
    (pick (ltb total (length w.value)) (no_store too_long) (store g.start w.value)))

-- [01]
unfoldable pub write_value : (structures : List Row) (service : ℕ) → Target → Fields → Stored
write_value structures service g w =
    pick (type_matches structures g w)
    (pick (eqb w.elements 0) (no_store no_elements)
    (pick (ltb g.count w.elements) (no_store beyond_end) (write_part service g w (w.elements * size_in structures g.type))))
    (no_store wrong_type)

-- all fields are read before any is judged [01]
unfoldable pub write_stored : (structures : List Row) (memory : List ℕ) (service : ℕ) → Target → (body : List ℕ) → Stored
write_stored structures memory service g body =
    pick (ltb (length body) (fields_size service body)) (no_store too_short)
    (pick (eqb g.bit no_bit) (write_value structures service g (fields_of service body)) (write_bit memory g (fields_of service body)))
