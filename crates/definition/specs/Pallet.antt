-- Document 01, "Pallet bench": its tables, flags and tag memory. Controller scope, access 0, multi-service on. And what a line of it says.
-- Document 01 alone defines them; IDs, the structure's name and handle, its template (8 bytes) and the bytes of `Rows` are this project's choice.
use Rattle.std.specs.Prelude.{true, false, List, [], ◌∷◌, ◌++◌, ℕ, zero, suc, replicate}
use Rattle.laws.specs.Put.{laid}
use Rattle.definition.specs.Reply.{room}
use Rattle.definition.specs.Tables.{Tables, Flags, Row}
use Rattle.definition.specs.Entry.{replied, Entered}
use Rattle.definition.specs.Computed.{compute}

-- `Cell` is of `CellType`, 4 bytes; its bit `Run` is bit 2 of byte 0
abbrev pub pallet_names : List ℕ
pallet_names = 0x43 ∷ 0x65 ∷ 0x6C ∷ 0x6C ∷ 0x54 ∷ 0x79 ∷ 0x70 ∷ 0x65 ∷ 0x52 ∷ 0x75 ∷ 0x6E ∷ []

-- `Count`, `Rows`, `Cell`
abbrev pub pallet_tag_names : List ℕ
pallet_tag_names = 0x43 ∷ 0x6F ∷ 0x75 ∷ 0x6E ∷ 0x74 ∷ 0x52 ∷ 0x6F ∷ 0x77 ∷ 0x73 ∷ 0x43 ∷ 0x65 ∷ 0x6C ∷ 0x6C ∷ []

-- scope, name, ID, type, three lengths, elements, access, alias, offset: `Count` DINT; `Rows` DINT, length 10; `Cell`
abbrev pub pallet_tags : List Row
pallet_tags =
    (0 ∷ 0 ∷ 5 ∷ 1 ∷ 0xC4 ∷ 0 ∷ 0 ∷ 0 ∷ 1 ∷ 0 ∷ 0 ∷ 0 ∷ [])
    ∷ (0 ∷ 5 ∷ 4 ∷ 2 ∷ 0xC4 ∷ 10 ∷ 0 ∷ 0 ∷ 10 ∷ 0 ∷ 0 ∷ 4 ∷ [])
    ∷ (0 ∷ 9 ∷ 4 ∷ 0xFFFFFFFF ∷ 0x100 ∷ 0 ∷ 0 ∷ 0 ∷ 1 ∷ 0 ∷ 0 ∷ 44 ∷ [])
    ∷ []

-- n numbers from i on
unfoldable pub up_from : (i n : ℕ) → List ℕ
up_from i zero = []
up_from i (suc n) = i ∷ up_from (suc i) n

unfoldable pub pallet : Tables
pallet = record {
  structures = (0 ∷ 8 ∷ 0x100 ∷ 0x1234 ∷ 4 ∷ 0 ∷ 1 ∷ 0 ∷ 0 ∷ 8 ∷ []) ∷ [];
  members = (8 ∷ 3 ∷ 0xC1 ∷ 0 ∷ 0 ∷ 2 ∷ 0 ∷ 0 ∷ 0 ∷ []) ∷ [];
  programs = [];
  tags = pallet_tags;
  others = [];
  names = pallet_names;
  tag_names = pallet_tag_names;
  templates = up_from 1 8;
}

unfoldable pub pallet_flags : Flags
pallet_flags = record { multi_service = true; instance_ids = true; aoi_locals_refused = false; micro800 = false }

-- the memory with these bytes of `Count` and of `Cell`; `Rows` holds 1 to 40, a byte each
unfoldable pub pallet_memory : (count cell : List ℕ) → List ℕ
pallet_memory count cell = count ++ up_from 1 40 ++ cell

unfoldable pub pallet_start : List ℕ
pallet_start = pallet_memory (0x2A ∷ 0 ∷ 0 ∷ 0 ∷ []) (0x04 ∷ 0 ∷ 0 ∷ 0 ∷ [])

-- ---- a line: a request and its limit; the expected reply and tag memory

pub record Line : Type 0 where
  pub request : List ℕ
  pub limit : ℕ
  pub reply : List ℕ
  pub memory : List ℕ

-- the symbol segments of `Count`, `Rows`, `Cell` and `Run`
abbrev pub count : List ℕ
count = 0x91 ∷ 0x05 ∷ 0x43 ∷ 0x6F ∷ 0x75 ∷ 0x6E ∷ 0x74 ∷ 0x00 ∷ []

abbrev pub rows : List ℕ
rows = 0x91 ∷ 0x04 ∷ 0x52 ∷ 0x6F ∷ 0x77 ∷ 0x73 ∷ []

abbrev pub cell_run : List ℕ
cell_run = 0x91 ∷ 0x04 ∷ 0x43 ∷ 0x65 ∷ 0x6C ∷ 0x6C ∷ 0x91 ∷ 0x03 ∷ 0x52 ∷ 0x75 ∷ 0x6E ∷ 0x00 ∷ []

-- most lines leave the memory as it was
abbrev pub line : (request : List ℕ) (limit : ℕ) (reply : List ℕ) → Line
line request limit r = record { request = request; limit = limit; reply = r; memory = pallet_start }

-- 0x52 of all of `Rows`
abbrev pub rows_from : (offset : ℕ) → List ℕ
rows_from offset = 0x52 ∷ 0x03 ∷ rows ++ 0x0A ∷ 0x00 ∷ offset ∷ 0x00 ∷ 0x00 ∷ 0x00 ∷ []

-- a buffer of 110 bytes, none of them 0
abbrev pub buffer : List ℕ
buffer = replicate 110 0xEE

-- what the definition makes of a line, and what the line says
unfoldable pub computed : Line → Entered
unfolding compute pallet pallet_flags pallet_start pallet_memory up_from
computed l = compute pallet pallet_flags pallet_start l.request l.limit buffer

unfoldable pub expected : Line → Entered
unfolding laid
expected l = record { outcome = replied l.reply; buffer = laid (room l.limit) buffer l.reply; memory = l.memory }
