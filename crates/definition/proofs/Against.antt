-- Lines of the pallet bench that worthless versions and the traps of document 01 get wrong, computed together; must-fail/ has those versions.
-- Assumes nothing.
use mathlib.Core.Path.{◌≡◌, refl}
use mathlib.Core.List.{List, [], ◌∷◌, ◌++◌, map}
use Prim.Native.Nat.{ℕ}
use Rattle.definition.specs.Tables.{Tables}
use Rattle.definition.specs.Entry.{replied}
use Rattle.definition.specs.Computed.{compute}
use Rattle.definition.specs.Pallet.{pallet_tag_names, up_from, pallet_flags, pallet_memory, pallet_start, Line, count, rows, cell_run, line, rows_from, buffer, computed, expected}

-- 0x4D of `Count`, now 14
abbrev write_count : List ℕ
write_count = 0x4D ∷ 0x04 ∷ count ++ 0xC4 ∷ 0x00 ∷ 0x01 ∷ 0x00 ∷ 0x0E ∷ 0x00 ∷ 0x00 ∷ 0x00 ∷ []

abbrev count_is14 : List ℕ
count_is14 = pallet_memory (0x0E ∷ 0x00 ∷ 0x00 ∷ 0x00 ∷ []) (0x04 ∷ 0x00 ∷ 0x00 ∷ 0x00 ∷ [])

-- an envelope around some parts, which start at these offsets
abbrev several : (offsets parts : List ℕ) → List ℕ
several offsets parts = 0x0A ∷ 0x02 ∷ 0x20 ∷ 0x02 ∷ 0x24 ∷ 0x01 ∷ offsets ++ parts

-- class 0x6C, instance 0x100
abbrev cell_type : List ℕ
cell_type = 0x20 ∷ 0x6C ∷ 0x25 ∷ 0x00 ∷ 0x00 ∷ 0x01 ∷ []

unfoldable pub lines : List Line
lines =
    -- past the first fragment there is more
    line (rows_from 16) 22 (0xD2 ∷ 0x00 ∷ 0x06 ∷ 0x00 ∷ 0xC4 ∷ 0x00 ∷ up_from 17 16)
    -- the last chunk is not rounded
    ∷ line (rows_from 35) 100 (0xD2 ∷ 0x00 ∷ 0x00 ∷ 0x00 ∷ 0xC4 ∷ 0x00 ∷ up_from 36 5)
    -- an accepted write is stored
    ∷ record { request = write_count; limit = 100; reply = 0xCD ∷ 0x00 ∷ 0x00 ∷ 0x00 ∷ []; memory = count_is14 }
    -- a bit write's offset, here 5, is ignored: `Cell.Run` is cleared
    ∷ record {
      request = 0x53 ∷ 0x06 ∷ cell_run ++ 0xC1 ∷ 0x00 ∷ 0x01 ∷ 0x00 ∷ 0x05 ∷ 0x00 ∷ 0x00 ∷ 0x00 ∷ 0x00 ∷ [];
      limit = 100;
      reply = 0xD3 ∷ 0x00 ∷ 0x00 ∷ 0x00 ∷ [];
      memory = pallet_memory (0x2A ∷ 0x00 ∷ 0x00 ∷ 0x00 ∷ []) (0x00 ∷ 0x00 ∷ 0x00 ∷ 0x00 ∷ []);
    }
    -- an envelope that is too large keeps its parts' writes
    ∷ record { request = several (0x01 ∷ 0x00 ∷ 0x04 ∷ 0x00 ∷ []) write_count; limit = 11; reply = 0x8A ∷ 0x00 ∷ 0x11 ∷ 0x00 ∷ []; memory = count_is14 }
    -- a read of all of `Rows` leaves room for the reply to the part behind it, which has no path
    ∷ line (several (0x02 ∷ 0x00 ∷ 0x06 ∷ 0x00 ∷ 0x14 ∷ 0x00 ∷ []) (rows_from 0 ++ 0x4C ∷ [])) 30
    (0x8A ∷ 0x00 ∷ 0x1E ∷ 0x00 ∷ 0x02 ∷ 0x00 ∷ 0x06 ∷ 0x00 ∷ 0x14 ∷ 0x00
    ∷ 0xD2 ∷ 0x00 ∷ 0x06 ∷ 0x00 ∷ 0xC4 ∷ 0x00 ∷ up_from 1 8 ++ 0xCC ∷ 0x00 ∷ 0x04 ∷ 0x00 ∷ [])
    -- the template of `CellType`, 8 bytes wanted: a fragment fits the limit
    ∷ line (0x4C ∷ 0x03 ∷ cell_type ++ 0x00 ∷ 0x00 ∷ 0x00 ∷ 0x00 ∷ 0x08 ∷ 0x00 ∷ []) 7 (0xCC ∷ 0x00 ∷ 0x06 ∷ 0x00 ∷ 0x01 ∷ 0x02 ∷ 0x03 ∷ [])
    -- its handle, in a reply of 12 bytes: item 20
    ∷ line (0x03 ∷ 0x03 ∷ cell_type ++ 0x01 ∷ 0x00 ∷ 0x01 ∷ 0x00 ∷ []) 12
    (0x83 ∷ 0x00 ∷ 0x00 ∷ 0x00 ∷ 0x01 ∷ 0x00 ∷ 0x01 ∷ 0x00 ∷ 0x00 ∷ 0x00 ∷ 0x34 ∷ 0x12 ∷ [])
    ∷ line (0x03 ∷ 0x03 ∷ cell_type ++ 0x01 ∷ 0x00 ∷ 0x01 ∷ 0x00 ∷ []) 11 (0x83 ∷ 0x00 ∷ 0x11 ∷ 0x00 ∷ [])
    -- two symbols, IDs alone: the second does not fit
    ∷ line (0x55 ∷ 0x02 ∷ 0x20 ∷ 0x6B ∷ 0x24 ∷ 0x00 ∷ 0x00 ∷ 0x00 ∷ []) 11 (0xD5 ∷ 0x00 ∷ 0x06 ∷ 0x00 ∷ 0x01 ∷ 0x00 ∷ 0x00 ∷ 0x00 ∷ [])
    -- a plain read's data behind its count is no offset
    ∷ line (0x4C ∷ 0x03 ∷ rows ++ 0x0A ∷ 0x00 ∷ 0x10 ∷ 0x00 ∷ 0x00 ∷ 0x00 ∷ []) 22 (0xCC ∷ 0x00 ∷ 0x06 ∷ 0x00 ∷ 0xC4 ∷ 0x00 ∷ up_from 1 16)
    -- 65,536, past the end
    ∷ line (0x52 ∷ 0x03 ∷ rows ++ 0x0A ∷ 0x00 ∷ 0x00 ∷ 0x00 ∷ 0x01 ∷ 0x00 ∷ []) 22 (0xD2 ∷ 0x00 ∷ 0xFF ∷ 0x01 ∷ 0x05 ∷ 0x21 ∷ [])
    -- short data is told behind the path's status: of `Rows`, and of `Rowz`, which is not there
    ∷ line (0x4C ∷ 0x03 ∷ rows) 22 (0xCC ∷ 0x00 ∷ 0x13 ∷ 0x00 ∷ [])
    ∷ line (0x4C ∷ 0x03 ∷ 0x91 ∷ 0x04 ∷ 0x52 ∷ 0x6F ∷ 0x77 ∷ 0x7A ∷ []) 22 (0xCC ∷ 0x00 ∷ 0x04 ∷ 0x00 ∷ [])
    ∷ []

pub against_worthless_versions : map computed lines ≡ map expected lines
unfolding lines computed expected
against_worthless_versions = refl

-- and behind 0x0F: `Count`, to which access is 3
unfoldable locked : Tables
locked = record {
  structures = [];
  members = [];
  programs = [];
  tags = (0 ∷ 0 ∷ 5 ∷ 1 ∷ 0xC4 ∷ 0 ∷ 0 ∷ 0 ∷ 1 ∷ 3 ∷ 0 ∷ 0 ∷ []) ∷ [];
  others = [];
  names = [];
  tag_names = pallet_tag_names;
  templates = [];
}

access_before_short : (compute locked pallet_flags pallet_start (0x4C ∷ 0x04 ∷ count) 22 buffer).outcome
    ≡ replied (0xCC ∷ 0x00 ∷ 0x0F ∷ 0x01 ∷ 0x00 ∷ 0x21 ∷ [])
unfolding compute locked pallet_flags pallet_start pallet_memory up_from
access_before_short = refl
