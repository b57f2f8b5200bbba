-- What a resolved path means in the definition's terms.
use Rattle.std.specs.Prelude.{◌≡◌, Bool, List, ℕ, Some, Result, Ok, Err}
use Rattle.definition.specs.Segment.{Segment, segments}
use Rattle.definition.specs.Tables.{Tables, Flags, Row}
use Rattle.definition.specs.Types.{size_in}
use Rattle.definition.specs.Resolve.{Resolved, found, turned, resolve}
use Rattle.definition.specs.Access.{tag_target}
use Rattle.cip.specs.Statuses.{status_of}
use Rattle.cip.specs.declared.Status.{Status}
use Rattle.model.specs.Tables.{Whatever, for_path, for_walk, target_of}
use Rattle.model.specs.declared.Target.{Target}

-- the tables that a path is resolved in, whatever the other symbols and the templates are
abbrev pub path_tables : Tables → Tables → Tables
path_tables t o = for_path t.structures t.members t.programs t.tags t.names t.tag_names o

-- and those that its moves look at, whatever the others are
abbrev pub walk_tables : Tables → Tables → Tables
walk_tables t o = for_walk t.structures t.members t.names o

-- a target, with some lengths of an array that is still open, and its type's size
pub record FoundAs (structures : List Row) (d : Resolved) (g : Target) : Type 0 where
  pub lengths : List ℕ
  pub is : d ≡ found (target_of g lengths)
  pub size_is : g.size ≡ size_in structures g.ty

abbrev pub ResolvesTo : (structures : List Row) → Resolved → Result Target Status → Type 0
ResolvesTo structures d (Ok g) = FoundAs structures d g
ResolvesTo structures d (Err s) = d ≡ turned (status_of s)

-- the path's segments come to this
pub record Resolves (t : Tables) (f : Flags) (path : List ℕ) (r : Result Target Status) : Type 0 where
  pub is : Whatever (path_tables t) (λ o. (l : List Segment) → segments path ≡ Some l → ResolvesTo t.structures (resolve o f l) r)

-- the same for a service that writes or does not
pub record Targets (t : Tables) (f : Flags) (writes : Bool) (path : List ℕ) (r : Result Target Status) : Type 0 where
  pub is : Whatever (path_tables t) (λ o. (l : List Segment) → segments path ≡ Some l → ResolvesTo t.structures (tag_target o f writes l) r)
