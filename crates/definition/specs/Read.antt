-- Document 01, item 16 and "Fragment", and document 02, P3: one read. Plain (0x4C) and fragmented (0x52) requests differ in their fields alone.
-- 1756-PM020 (Read Tag, Read Tag Fragmented) defines the request's fields and the reply's header and data; document 01 alone the refusals' order.
use Rattle.std.specs.Prelude.{Bool, List, [], ◌∷◌, ℕ, ◌*◌, ◌/◌, ◌%◌, ◌^◌, ltb, leb, eqb, length, get_or, drop}
use Rattle.laws.specs.Pick.{pick}
use Rattle.definition.specs.Bytes.{u16_at, u32_at, part}
use Rattle.definition.specs.Reply.{Status, fail, too_short, no_elements, beyond_end}
use Rattle.definition.specs.Tables.{Row, no_bit}
use Rattle.definition.specs.Types.{size_in, type_header}
use Rattle.definition.specs.Resolve.{Target, Resolved, found, turned}
use Rattle.definition.specs.Fragment.{fragment_reply}

-- the bytes that a read selects: so many from a first one, or a bit (8: none) of that one; and their type header
pub record Selection : Type 0 where
  pub start : ℕ
  pub size : ℕ
  pub bit : ℕ
  pub header : List ℕ

-- bit k of a byte, as the BOOL that it reads as [01]
abbrev pub bit_of : (b k : ℕ) → ℕ
bit_of b k = b / 2 ^ k % 2

-- of a tag memory; for a bit its BOOL byte [01]
unfoldable pub selected_bytes : Selection → (memory : List ℕ) → List ℕ
selected_bytes s memory = pick (eqb s.bit no_bit) (part memory s.start s.size) (bit_of (get_or memory s.start 0) s.bit ∷ [])

pub data Asked : Type 0 where
  granted : Selection → Asked
  not_granted : Status → Asked

-- element count × element size bytes from the target's first [PM020]
unfoldable pub selection : (structures : List Row) → Target → (elements : ℕ) → Selection
selection structures g elements = record {
  start = g.start;
  size = elements * size_in structures g.type;
  bit = g.bit;
  header = type_header structures g.type;
}

-- all of item 16's refusals that depend neither on the offset nor on missing data [01]
unfoldable pub ask : (structures : List Row) → Target → (elements : ℕ) → Asked
ask structures g elements =
    pick (eqb g.bit no_bit)
    (pick (eqb elements 0) (not_granted no_elements) (pick (ltb g.count elements) (not_granted beyond_end) (granted (selection structures g elements))))
    (pick (eqb elements 1) (granted (selection structures g elements)) (not_granted beyond_end))

-- a read of a path's target, found or not [01]
abbrev pub ask_target : (structures : List Row) → Resolved → (elements : ℕ) → Asked
ask_target structures (found g) elements = ask structures g elements
ask_target structures (turned status) elements = not_granted status

-- the offset is checked last: at or past the length is beyond the end [01]
unfoldable pub send_from : (service : ℕ) (header value : List ℕ) (offset limit : ℕ) → List ℕ
send_from service header value offset limit =
    pick (leb (length value) offset) (fail service beyond_end) (fragment_reply service header (drop offset value) limit)

-- [01]
abbrev pub send : (service : ℕ) → Asked → (memory : List ℕ) (offset limit : ℕ) → List ℕ
send service (granted s) memory offset limit = send_from service s.header (selected_bytes s memory) offset limit
send service (not_granted status) memory offset limit = fail service status

-- ---- one read: so many elements of a target, from an offset on

-- the service goes into the reply's first byte and decides nothing else [P3]
unfoldable pub read_at : (structures : List Row) (memory : List ℕ) (service : ℕ) → Target → (elements offset limit : ℕ) → List ℕ
read_at structures memory service g elements offset limit = send service (ask structures g elements) memory offset limit

-- ---- the fields, by which whoever decodes the request says elements and offset; or data is missing

pub data ReadFields : Type 0 where
  fields : (elements offset : ℕ) → ReadFields
  short : ReadFields

-- [PM020]
abbrev pub is_fragmented : (service : ℕ) → Bool
is_fragmented service = eqb service 0x52

-- a 16-bit element count; behind it 0x52 has an offset of 32 bits, and 0x4C's is 0. Data beyond these fields is ignored [PM020]
unfoldable pub read_fields : (service : ℕ) (body : List ℕ) → ReadFields
read_fields service body =
    pick (is_fragmented service)
    (pick (ltb (length body) 6) short (fields (u16_at body 0) (u32_at body 2)))
    (pick (ltb (length body) 2) short (fields (u16_at body 0) 0))

-- [01]
abbrev pub read_by : (structures : List Row) (memory : List ℕ) (service : ℕ) → Target → ReadFields → (limit : ℕ) → List ℕ
read_by structures memory service g (fields elements offset) limit = read_at structures memory service g elements offset limit
read_by structures memory service g short limit = fail service too_short

-- [01]
unfoldable pub read_reply : (structures : List Row) (memory : List ℕ) (service : ℕ) → Target → (body : List ℕ) (limit : ℕ) → List ℕ
read_reply structures memory service g body limit = read_by structures memory service g (read_fields service body) limit
