-- A request for a page of symbols: where the page starts, and its answer.
use Rattle.std.specs.Prelude.{◌≡◌, ℕ, List, [], ◌∷◌}
use Rattle.std.specs.Prelude.{Option, None, Some}
use Rattle.definition.specs.Segment.{Segment as Defined, segments, segments_from}
use Rattle.definition.specs.Request.{object_of, symbol_instance}
use Rattle.definition.specs.Tables.{Tables}
use Rattle.definition.specs.Symbols.{Start as DefinedStart, start_in, page_start, list_symbols}
use Rattle.cip.specs.Writes.{Laid}
use Rattle.path.specs.declared.request.Request.{Request}
use Rattle.model.specs.Tables.{Whatever, WhereValid, for_scope, for_list}
use Rattle.listing.specs.declared.pages.Start.{Start}

-- the tables that a scope is found in, and those that its symbols are listed from, in another table set
abbrev pub scope_lent : Tables → Tables → Tables
scope_lent t = for_scope t.programs t.names

abbrev pub list_lent : Tables → Tables → Tables
list_lent t = for_list t.structures t.programs t.tags t.others t.names t.tag_names

-- ---- where a page starts

abbrev pub start_of : Option Start → Option DefinedStart
start_of None = None
start_of (Some s) = Some (record { scope = s.scope; id = s.id })

-- `page_start` in a known scope: class 0x6B and the start ID, and nothing more
unfoldable pub start_with : (scope : ℕ) → List Defined → Option DefinedStart
start_with scope [] = None
start_with scope (a ∷ []) = None
start_with scope (a ∷ (b ∷ [])) = start_in scope (symbol_instance (object_of (a ∷ (b ∷ []))))
start_with scope (a ∷ (b ∷ (c ∷ rest))) = None

pub record BeginsAt (path : List ℕ) (at scope : ℕ) (r : Option Start) : Type 0 where
  pub is : (l : List Defined) → segments_from path at ≡ Some l → start_with scope l ≡ start_of r

pub record PageBegins (t : Tables) (path : List ℕ) (r : Option Start) : Type 0 where
  pub is : Whatever (scope_lent t) (λ t. (l : List Defined) → segments path ≡ Some l → page_start t l ≡ start_of r)

-- ---- the answer

pub record Lists (t : Tables) (q : Request) (limit : ℕ) (old : List ℕ) (r : ℕ) (new : List ℕ) : Type 0 where
  pub is : WhereValid (list_lent t)
      (λ t. (l : List Defined) → segments q.path.now ≡ Some l → Laid limit (list_symbols t q.service l q.body.now limit) old r new)
