-- A tag's record as a row of the tag table, and the rows that a list of records means.
use Rattle.std.specs.Borrow.{Bor}
use Rattle.std.specs.Prelude.{◌≡◌, Bool, List, [], ◌∷◌, map, ℕ, min, length, get_or, take, drop}
use Rattle.std.specs.Prelude.{Option, None, Some}
use Rattle.definition.specs.Tables.{Row, field, tag_scope, tag_id, tag_type, tag_elements, tag_access, is_alias, tag_offset}
use Rattle.records.specs.declared.Tag.{Tag}
use Rattle.records.specs.declared.Found.{Found}

-- twelve words, in the order of the table
abbrev pub row_of : Tag → Row
row_of t = t.scope ∷ t.name_start ∷ t.name_length ∷ t.id ∷ t.ty ∷ get_or t.lengths 0 0 ∷ get_or t.lengths 1 0 ∷ get_or
    t.lengths 2 0 ∷ t.elements ∷ t.access ∷ t.alias ∷ t.offset ∷ []

abbrev pub tag_of : Row → Tag
tag_of r = record {
  scope = tag_scope r;
  name_start = field 1 r;
  name_length = field 2 r;
  id = tag_id r;
  ty = tag_type r;
  lengths = field 5 r ∷ field 6 r ∷ field 7 r ∷ [];
  elements = tag_elements r;
  access = tag_access r;
  alias = is_alias r;
  offset = tag_offset r;
}

-- what stands past the end of a list of records: every number of it is 0
abbrev pub no_tag : Tag
no_tag = tag_of []

abbrev pub tag_at : List Tag → ℕ → Tag
tag_at ts i = get_or ts i no_tag

abbrev pub row_at : List Row → ℕ → Row
row_at rows i = get_or rows i (row_of no_tag)

-- the tag table that the records mean
abbrev pub rows_of : List Tag → List Row
rows_of ts = map row_of ts

-- what a closure says of a record is what the test p says of its row
abbrev pub TestsRows : (post : Bor Tag → Bool → Type 0) → (p : Row → Bool) → Type 0
TestsRows post p = (tag : Bor Tag) (r : Bool) → post tag r → r ≡ p (row_of tag.now)

-- the record whose row a search found, with its place
abbrev pub lookup_of : List Tag → Option ℕ → Option Found
lookup_of tags None = None
lookup_of tags (Some i) = Some (record { at = i; tag = tag_at tags i })

-- n records were packed into rows: as many as there are, or as fit; the rows after them are as they were
pub record Packs (tags : List Tag) (rows : List Row) (n : ℕ) (packed : List Row) : Type 0 where
  pub count_is : n ≡ min (length tags) (length rows)
  pub first_are : take n packed ≡ rows_of (take n tags)
  pub rest_are : drop n packed ≡ drop n rows
