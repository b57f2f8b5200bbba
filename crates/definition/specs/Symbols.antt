-- Document 01, "Symbol page": the symbols of a scope, ascending by ID, with every attribute; and item 13, the request (0x55).
-- 1756-PM020 (Symbol object) defines attributes 1, 2, 7, 8 and 10; document 01 alone 3, 5 and 6, the rest of item 13 and the order of its refusals.
use Rattle.std.specs.Prelude.{Bool, List, [], ◌∷◌, ◌++◌, map, ℕ, suc, ◌+◌, ◌*◌, ◌%◌, eqb, length, get_or}
use Rattle.std.specs.Prelude.{Option, None, Some}
use Rattle.laws.specs.Pick.{pick, either}
use Rattle.laws.specs.Tests.{every}
use Rattle.laws.specs.Sorted.{sort, from}
use Rattle.definition.specs.Bytes.{le16, le32, counted}
use Rattle.definition.specs.Reply.{fail, path_unknown, too_short, no_attribute}
use Rattle.definition.specs.Segment.{Segment, name_of}
use Rattle.definition.specs.Request.{object_of, symbol_instance}
use Rattle.definition.specs.Tables.{Tables, Row, tag_scope, tag_name, tag_id, tag_type, tag_lengths, lengths_of, tag_elements, tag_access, is_alias, other_scope, other_name, other_id, other_type}
use Rattle.definition.specs.Types.{is_dword_array, element_size, symbol_type}
use Rattle.definition.specs.Lookup.{marked, program_of}
use Rattle.definition.specs.Page.{Entry, id_of, page_reply}

-- a symbol's attributes, as a page sends them
pub record Symbol : Type 0 where
  pub id : ℕ
  pub name : List ℕ
  pub type : ℕ
  pub control : ℕ
  pub size : ℕ
  pub lengths : List ℕ
  pub access : ℕ

-- three lengths; DWORD arrays: elements, 0, 0 [01]
unfoldable pub listed_lengths : Row → List ℕ
listed_lengths r = pick (is_dword_array r) (tag_elements r ∷ 0 ∷ 0 ∷ []) (tag_lengths r)

-- control is 2^26, or 0 for an alias [01]
abbrev pub base_tag : ℕ
base_tag = 0x4000000

-- [01]
unfoldable pub tag_symbol : Tables → Row → Symbol
tag_symbol t r = record {
  id = tag_id r;
  name = tag_name t.tag_names r;
  type = symbol_type t.structures (tag_type r) (length (lengths_of r));
  control = pick (marked (is_alias r)) 0 base_tag;
  size = element_size t (tag_type r);
  lengths = listed_lengths r;
  access = tag_access r;
}

-- other symbols carry their type, and zeros for 6, 7, 8 and 10 [01]
unfoldable pub other_symbol : Tables → Row → Symbol
other_symbol t r = record {
  id = other_id r;
  name = other_name t.names r;
  type = other_type r;
  control = 0;
  size = 0;
  lengths = 0 ∷ 0 ∷ 0 ∷ [];
  access = 0;
}

-- the rows of one scope, made symbols [01]
unfoldable pub in_scope_only : (scope_of : Row → ℕ) (make : Row → Symbol) (scope : ℕ) → List Row → List Symbol
in_scope_only scope_of make scope [] = []
in_scope_only scope_of make scope (r ∷ rest) =
    pick (eqb (scope_of r) scope) (make r ∷ in_scope_only scope_of make scope rest) (in_scope_only scope_of make scope rest)

-- [01]
unfoldable pub symbols : Tables → (scope : ℕ) → List Symbol
symbols t scope = in_scope_only tag_scope (tag_symbol t) scope t.tags ++ in_scope_only other_scope (other_symbol t) scope t.others

-- ---- the entry of a symbol: its 32-bit ID first, then the listed attributes

-- [01]
abbrev pub mod32 : ℕ → ℕ
mod32 n = n % 4294967296

-- [01]
abbrev pub three32 : List ℕ → List ℕ
three32 ns = le32 (get_or ns 0 0) ++ le32 (get_or ns 1 0) ++ le32 (get_or ns 2 0)

-- [01]
unfoldable pub symbol_attribute : Symbol → (number : ℕ) → List ℕ
symbol_attribute s a =
    pick (eqb a 1) (le16 (length s.name) ++ s.name)
    (pick (eqb a 2) (le16 s.type)
    (pick (eqb a 3) (le32 (mod32 (s.id * 0x100 + 0x100000)))
    (pick (eqb a 5) (le32 (mod32 (s.id * 0x40 + 0x2000)))
    (pick (eqb a 6) (le32 s.control)
    (pick (eqb a 7) (le16 s.size)
    (pick (eqb a 8) (three32 s.lengths)
    (s.access ∷ [])))))))

-- [PM020]
unfoldable pub attributes_of : Symbol → List ℕ → List ℕ
attributes_of s [] = []
attributes_of s (a ∷ rest) = symbol_attribute s a ++ attributes_of s rest

-- [PM020]
unfoldable pub entry_of : (attributes : List ℕ) → Symbol → Entry
entry_of attributes s = record { id = s.id; bytes = le32 s.id ++ attributes_of s attributes }

-- the scope's entries, ascending by ID; those due are the ones from the start ID on [PM020]
unfoldable pub listing : Tables → (scope : ℕ) (attributes : List ℕ) → List Entry
listing t scope attributes = sort id_of (map (entry_of attributes) (symbols t scope))

-- [PM020]
unfoldable pub due : Tables → (scope : ℕ) (attributes : List ℕ) (start : ℕ) → List Entry
due t scope attributes start = from id_of start (listing t scope attributes)

-- ---- the request

-- [01]
unfoldable pub is_listed : (number : ℕ) → Bool
is_listed a =
    either (eqb a 1) (either (eqb a 2) (either (eqb a 3) (either (eqb a 5) (either (eqb a 6) (either (eqb a 7) (either (eqb a 8) (eqb a 10)))))))

-- where a page starts: a scope and a start ID
pub record Start : Type 0 where
  pub scope : ℕ
  pub id : ℕ

-- [01]
abbrev pub start_in : (scope : ℕ) → Option ℕ → Option Start
start_in scope None = None
start_in scope (Some id) = Some (record { scope = scope; id = id })

-- [01]
abbrev pub start_of : Option ℕ → Option ℕ → Option Start
start_of None id = None
start_of (Some k) id = start_in (suc k) id

-- [01]
abbrev pub named_scope : Tables → Option (List ℕ) → Option ℕ
named_scope t None = None
named_scope t (Some name) = program_of t name

-- class 0x6B and the start ID, or a known program and these; nothing more [01]
unfoldable pub page_start : Tables → List Segment → Option Start
page_start t [] = None
page_start t (a ∷ []) = None
page_start t (a ∷ (b ∷ [])) = start_in 0 (symbol_instance (object_of (a ∷ (b ∷ []))))
page_start t (a ∷ (b ∷ (c ∷ []))) = start_of (named_scope t (name_of a)) (symbol_instance (object_of (b ∷ (c ∷ []))))
page_start t (a ∷ (b ∷ (c ∷ (d ∷ rest)))) = None

-- 0x13 for a short list, 0x14 for an unknown attribute [01]
abbrev pub page_of : Tables → (service : ℕ) → Start → Option (List ℕ) → (limit : ℕ) → List ℕ
page_of t service s None limit = fail service too_short
page_of t service s (Some attributes) limit =
    pick (every is_listed attributes) (page_reply service (due t s.scope attributes s.id) limit) (fail service no_attribute)

-- [01]
abbrev pub page_from : Tables → (service : ℕ) → Option Start → (body : List ℕ) (limit : ℕ) → List ℕ
page_from t service None body limit = fail service path_unknown
page_from t service (Some s) body limit = page_of t service s (counted body) limit

-- [01]
unfoldable pub list_symbols : Tables → (service : ℕ) (path : List Segment) (body : List ℕ) (limit : ℕ) → List ℕ
list_symbols t service path body limit = page_from t service (page_start t path) body limit
