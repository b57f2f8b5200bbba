-- A symbol of the code as the definition's, and what a step of a page leaves.
use Rattle.std.specs.Prelude.{◌≡◌, ℕ, suc, ◌+◌, ◌-◌, ◌<◌, ◌≤◌, true, List, [], ◌∷◌, ◌++◌, length, eqb}
use Rattle.laws.specs.Pick.{pick}
use Rattle.laws.specs.Put.{put}
use Rattle.laws.specs.Tests.{every, pairs}
use Rattle.definition.specs.Bytes.{le32, part}
use Rattle.definition.specs.Reply.{reply, fail, partial, too_large}
use Rattle.definition.specs.Tables.{Tables, Row, tag_elements, tag_access}
use Rattle.definition.specs.Valid.{ids_differ}
use Rattle.definition.specs.Page.{Entry}
use Rattle.definition.specs.Symbols.{Symbol as Defined, attributes_of, due}
use Rattle.model.specs.Tables.{for_page}
use Rattle.listing.specs.declared.pages.Walk.{Walk}
use Rattle.listing.specs.declared.pages.Step.{Step}
use Rattle.listing.specs.declared.pages.Step.TheVariants.{More, Full, Done}
use Rattle.listing.specs.declared.symbols.Symbol.{Symbol}

-- the tables that a page is made of, in another table set
abbrev pub page_lent : Tables → Tables → Tables
page_lent t = for_page t.structures t.tags t.others t.names t.tag_names

-- those that a tag's symbol is made of, and those that another symbol is made of
abbrev pub tag_lent : Tables → Tables → Tables
tag_lent t o = for_page t.structures o.tags o.others o.names t.tag_names o

abbrev pub other_lent : Tables → Tables → Tables
other_lent t o = for_page o.structures o.tags o.others t.names o.tag_names o

abbrev pub made : Symbol → Defined
made s = record {
  id = s.id;
  name = s.name.now;
  type = s.kind;
  control = s.control;
  size = s.size;
  lengths = s.lengths;
  access = s.access;
}

-- a symbol's entry, its own ID and its attributes, where it is listed by an ID that may be another
abbrev pub entry_by : (id : ℕ) (attributes : List ℕ) → Defined → Entry
entry_by id attributes s = record { id = id; bytes = le32 s.id ++ attributes_of s attributes }

-- what a tag's row has to be for its symbol: where the tables are valid it is
abbrev pub ListableRow : (r : Row) → Type 0
ListableRow r = (tag_access r ≤ 3) × (0 < tag_elements r)

-- what a step of a page leaves: one entry more, its ID plus one as the next bound and any hint, or an entry that does not fit, or nothing due
pub data Stepped (t : Tables) (scope : ℕ) (attributes : List ℕ) (limit used bound : ℕ) (old : List ℕ) : Step → List ℕ → Type 0 where
  more : {w : Walk} {new : List ℕ} (e : Entry) → w.bound ≡ suc e.id → due t scope attributes bound ≡ e ∷ due t scope attributes w.bound
      → w.used ≡ used + length e.bytes → w.used ≤ limit → new ≡ put old used e.bytes → Stepped t scope attributes limit used bound old (More w) new
  full : {new : List ℕ} (e : Entry) (es : List Entry) → due t scope attributes bound ≡ e ∷ es → limit < used + length e.bytes
      → new ≡ old → Stepped t scope attributes limit used bound old Full new
  done : {new : List ℕ} → due t scope attributes bound ≡ [] → new ≡ old → Stepped t scope attributes limit used bound old Done new

-- the same of one entry
pub data EntryStep (e : Entry) (limit used : ℕ) (old : List ℕ) : Step → List ℕ → Type 0 where
  put_in : {w : Walk} {new : List ℕ} → w.bound ≡ suc e.id → w.used ≡ used + length e.bytes → w.used ≤ limit → new ≡ put old used e.bytes
      → EntryStep e limit used old (More w) new
  left_out : {new : List ℕ} → limit < used + length e.bytes → new ≡ old → EntryStep e limit used old Full new

-- T3 between tags, and between a tag and another symbol: those of one scope have different IDs
abbrev pub IdsApart : (tags others : List Row) → Type 0
IdsApart tags others = (pairs ids_differ tags ≡ true) × (every (λ r. every (ids_differ r) others) tags ≡ true)

-- a step goes on past the ID's four bytes, up to the limit
abbrev pub Further : (used limit : ℕ) → Step → Type 0
Further used limit (More w) = (used + 4 ≤ w.used) × (w.used ≤ limit)
Further used limit Full = Unit {0}
Further used limit Done = Unit {0}

-- what is sent of a page whose next entry does not fit: 0x06 and the entries, which stand in the buffer up to `used`, or 0x11 if there is none
abbrev pub stopped : (service used : ℕ) (buffer : List ℕ) → List ℕ
stopped service used buffer = pick (eqb used 4) (fail service too_large) (reply service partial (part buffer 4 (used - 4)))
