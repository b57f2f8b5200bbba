-- Document 01, "Segment": the 256 first bytes, the segment at a position of a path, and a path's segments.
-- CIP Volume 1, Appendix C, sections on segments (port, logical, ANSI extended symbol) and padded EPATHs, defines the encodings; which of
-- them are taken, and that a pad may hold anything, is document 01's. The steps stand in the volume's order, as document 02 asks: the
-- segment type, then the format, then the value with its pad; ports are excepted.
use Rattle.std.specs.Prelude.{List, map, ℕ, ◌+◌, ◌%◌, ltb, leb, eqb, length, get_or}
use Rattle.std.specs.Prelude.{Option, None, Some}
use Rattle.std.specs.Int.Bits.{bit_and}
use Rattle.laws.specs.Pick.{pick}
use Rattle.laws.specs.Items.{items}
use Rattle.definition.specs.Bytes.{u16_at, u32_at, part}

-- CIP Volume 1, Appendix C. No service minds a port's number or link, so a port is known by its end alone
pub data Segment : Type 0 where
  port : Segment
  class : ℕ → Segment
  instance : ℕ → Segment
  element : ℕ → Segment
  attribute : ℕ → Segment
  symbol : (name : List ℕ) → Segment

-- ---- the segment type: what kind of segment a first byte begins, a logical one with its logical type

pub data Kind : Type 0 where
  port_kind class_kind instance_kind element_kind attribute_kind symbol_kind no_kind : Kind

-- bits 4 to 2 of a logical segment's first byte [CIP]
abbrev pub logical_type : ℕ → Kind
logical_type t =
    pick (eqb t 0x00) class_kind
    (pick (eqb t 0x04) instance_kind
    (pick (eqb t 0x08) element_kind
    (pick (eqb t 0x10) attribute_kind no_kind)))

-- below 0x20 a port, below 0x40 a logical segment, 0x91 a symbol [CIP]
unfoldable pub kind_of : ℕ → Kind
kind_of b =
    pick (ltb b 0x20) port_kind
    (pick (ltb b 0x40) (logical_type (bit_and b 0x1C))
    (pick (eqb b 0x91) symbol_kind no_kind))

-- ---- the format: in which form a logical segment's value is written

-- bits 1 and 0 of its first byte [CIP]
abbrev pub form : ℕ → ℕ
form b = b % 4

-- ---- the value with its pad: the segment, with the position where the next one starts; `cut`: invalid, or the path ends inside it

pub data Step : Type 0 where
  step : Segment → (next : ℕ) → Step
  cut : Step

-- `need` bytes stand in the path from `at` on: the segment, which ends behind them [01]
abbrev pub within : (path : List ℕ) (at need : ℕ) → Segment → Step
within path at need s = pick (leb (at + need) (length path)) (step s (at + need)) cut

-- form 0: an 8-bit value; 1: a pad and 16 bits; 2: a pad and 32 bits; 3 is reserved [CIP]
unfoldable pub logical_at : (path : List ℕ) (at : ℕ) (f : ℕ) → (ℕ → Segment) → Step
logical_at path at f make =
    pick (eqb f 0) (within path at 1 (make (get_or path at 0)))
    (pick (eqb f 1) (within path at 3 (make (u16_at path (at + 1))))
    (pick (eqb f 2) (within path at 5 (make (u32_at path (at + 1)))) cut))

-- a size byte, as many bytes, a pad if odd [CIP]
unfoldable pub sized_at : (path : List ℕ) (at : ℕ) → (List ℕ → Segment) → Step
sized_at path at make =
    let n = get_or path at 0 in
    pick (ltb at (length path)) (within path (at + 1) (n + n % 2) (make (part path (at + 1) n))) cut

-- ---- ports, in steps of their own

-- behind a port's number: the link with its size (bit 0x10), or one link byte [CIP]
unfoldable pub link_at : (path : List ℕ) (at b : ℕ) → Step
link_at path at b = pick (ltb b 0x10) (within path at 1 port) (sized_at path at (λ link. port))

-- a port number of 15 means that a 16-bit number follows, before anything else [CIP]
unfoldable pub port_at : (path : List ℕ) (at b : ℕ) → Step
port_at path at b = pick (eqb (b % 16) 15) (link_at path (at + 2) b) (link_at path at b)

-- ---- the segment at a position

-- what follows the first byte b, from `at` on [CIP]
abbrev pub by_kind : Kind → (path : List ℕ) (at b : ℕ) → Step
by_kind port_kind path at b = port_at path at b
by_kind class_kind path at b = logical_at path at (form b) class
by_kind instance_kind path at b = logical_at path at (form b) instance
by_kind element_kind path at b = logical_at path at (form b) element
by_kind attribute_kind path at b = logical_at path at (form b) attribute
by_kind symbol_kind path at b = sized_at path at symbol
by_kind no_kind path at b = cut

-- [CIP]
unfoldable pub segment_at : (path : List ℕ) (at : ℕ) → Step
segment_at path at = let b = get_or path at 0 in by_kind (kind_of b) path (at + 1) b

-- ---- the segments of a whole path

-- no segment ends at 0, so 0 says that there is none; the port that stands for `cut` below is never used, since `items` has no list then [01]
abbrev pub next_of : Step → ℕ
next_of (step s next) = next
next_of cut = 0

-- [01]
abbrev pub segment_of : Step → Segment
segment_of (step s next) = s
segment_of cut = port

-- [01]
abbrev pub only_segments : Option (List Step) → Option (List Segment)
only_segments None = None
only_segments (Some steps) = Some (map segment_of steps)

-- from a position on; none where one is invalid or cut short; a path has no more segments than bytes [CIP]
unfoldable pub segments_from : (path : List ℕ) (at : ℕ) → Option (List Segment)
segments_from path at = only_segments (items (segment_at path) next_of (length path) (length path) at)

-- [CIP]
abbrev pub segments : List ℕ → Option (List Segment)
segments path = segments_from path 0

-- ---- what a segment is

-- [01]
abbrev pub class_of : Segment → Option ℕ
class_of port = None
class_of (class c) = Some c
class_of (instance i) = None
class_of (element e) = None
class_of (attribute a) = None
class_of (symbol s) = None

-- [01]
abbrev pub instance_of : Segment → Option ℕ
instance_of port = None
instance_of (class c) = None
instance_of (instance i) = Some i
instance_of (element e) = None
instance_of (attribute a) = None
instance_of (symbol s) = None

-- [01]
abbrev pub element_of : Segment → Option ℕ
element_of port = None
element_of (class c) = None
element_of (instance i) = None
element_of (element e) = Some e
element_of (attribute a) = None
element_of (symbol s) = None

-- [01]
abbrev pub name_of : Segment → Option (List ℕ)
name_of port = None
name_of (class c) = None
name_of (instance i) = None
name_of (element e) = None
name_of (attribute a) = None
name_of (symbol s) = Some s
