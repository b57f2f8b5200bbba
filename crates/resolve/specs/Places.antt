-- A place and what a move comes to, in the definition's terms.
use Rattle.std.specs.Prelude.{◌≡◌, List, ℕ, get_or, Result, Ok, Err}
use Rattle.definition.specs.Tables.{Row, no_bit, tag_offset, tag_type, tag_elements, tag_access}
use Rattle.definition.specs.Types.{size_in}
use Rattle.definition.specs.Resolve.{Target as Defined, Resolved, found, turned, index_lengths}
use Rattle.cip.specs.Statuses.{status_of}
use Rattle.cip.specs.declared.Status.{Status}
use Rattle.model.specs.Shapes.{nonzero3}
use Rattle.model.specs.Tables.{target_of}
use Rattle.model.specs.declared.Target.{Target}
use Rattle.resolve.specs.declared.places.Place.{Place}

-- the three lengths that a place holds
abbrev pub first_of : List ℕ → ℕ
first_of ns = get_or ns 0 0

abbrev pub second_of : List ℕ → ℕ
second_of ns = get_or ns 1 0

abbrev pub third_of : List ℕ → ℕ
third_of ns = get_or ns 2 0

-- those of the array that is still open
abbrev pub open_lengths : List ℕ → List ℕ
open_lengths ns = nonzero3 ns

abbrev pub place_of : Place → Defined
place_of g = record {
  tag = g.tag;
  start = g.start;
  type = g.ty;
  count = g.count;
  lengths = open_lengths g.lengths;
  bit = g.bit;
  access = g.access;
}

-- the place that a move leads to, or the status that turns it away
abbrev pub moved_of : Result Place Status → Resolved
moved_of (Ok g) = found (place_of g)
moved_of (Err s) = turned (status_of s)

-- `whole_tag` of a tag's row
unfoldable pub whole_row : ℕ → Row → Defined
whole_row i r = record {
  tag = i;
  start = tag_offset r;
  type = tag_type r;
  count = tag_elements r;
  lengths = index_lengths r;
  bit = no_bit;
  access = tag_access r;
}

-- a place as a target, with its type's size
pub record Aims (structures : List Row) (g : Place) (r : Target) : Type 0 where
  pub is : target_of r (open_lengths g.lengths) ≡ place_of g
  pub size_is : r.size ≡ size_in structures r.ty
