-- The tag that a path starts with, in the definition's terms.
use Rattle.std.specs.Prelude.{◌≡◌, List, ℕ, ◌<◌, length, Option, None, Some, Result, Ok, Err}
use Rattle.std.specs.Borrow.{Bor}
use Rattle.definition.specs.Segment.{Segment}
use Rattle.definition.specs.Tables.{Tables, Flags}
use Rattle.definition.specs.Lookup.{program_named}
use Rattle.definition.specs.Resolve.{Resolved, turned, whole_tag, moves, walk, in_scope, in_program, resolve}
use Rattle.cip.specs.Statuses.{status_of}
use Rattle.cip.specs.declared.Status.{Status}
use Rattle.model.specs.Tables.{for_start}
use Rattle.resolve.specs.declared.rest.Rest.{Rest}
use Rattle.resolve.specs.declared.start.Start.{Start}
use Rattle.resolve.specs.Paths.{left}

-- the tables that a path's tag is found in, whatever the others are
abbrev pub start_tables : Tables → Tables → Tables
start_tables t o = for_start t.programs t.tags t.names t.tag_names o

abbrev pub found_at : Option ℕ → Rest → (unknown : Status) → Result Start Status
found_at None rest unknown = Err unknown
found_at (Some i) rest unknown = Ok (record { tag = i; rest = rest })

-- what a path comes to behind its tag
abbrev pub afterwards : Tables → Flags → Result Start Status → Resolved
afterwards t f (Ok s) = walk t f (moves (left s.rest)) (whole_tag t s.tag)
afterwards t f (Err s) = turned (status_of s)

-- the tag is one of the table
abbrev pub StartInside : Tables → Result Start Status → Type 0
StartInside t (Ok s) = s.tag < length t.tags
StartInside t (Err s) = Unit {0}

-- a path that comes to d starts so
pub record Begins (t : Tables) (f : Flags) (d : Resolved) (r : Result Start Status) : Type 0 where
  pub is : afterwards t f r ≡ d
  pub inside : StartInside t r

-- a program's name, without its prefix, and what follows it
abbrev pub Prefixed : List Segment → Option (Bor (List ℕ) × Rest) → Type 0
Prefixed l (Some v) = (t : Tables) (f : Flags) → in_program t f (program_named t v.0.now) (left v.1) ≡ resolve t f l
Prefixed l None = (t : Tables) (f : Flags) → in_scope t f 0 l ≡ resolve t f l
