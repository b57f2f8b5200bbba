-- A place that stands in its tag, and what a step of a walk comes to.
use Rattle.std.specs.Prelude.{◌≡◌, List, ◌<◌, length, Result, Ok, Err}
use Rattle.definition.specs.Segment.{Segment}
use Rattle.definition.specs.Tables.{Tables, Flags}
use Rattle.definition.specs.Resolve.{Target, Resolved, turned, moves, walk}
use Rattle.definition.proofs.Inside.{Stands}
use Rattle.cip.specs.Statuses.{status_of}
use Rattle.cip.specs.declared.Status.{Status}
use Rattle.model.specs.Tables.{SomeValid}
use Rattle.resolve.specs.declared.places.Place.{Place}
use Rattle.resolve.specs.declared.rest.Rest.{Rest}
use Rattle.resolve.specs.Answers.{walk_tables}
use Rattle.resolve.specs.Paths.{left}
use Rattle.resolve.specs.Places.{place_of}

-- in some valid tables
pub record Standing (t : Tables) (g : Target) : Type 0 where
  pub valid_in : SomeValid (walk_tables t)
  pub stands : Stands (walk_tables t valid_in.rest) g

abbrev pub walked : Tables → Flags → List Segment → Target → Resolved
walked t f l g = walk t f (moves l) g

-- a walk that goes on from a place
pub record Onward (t : Tables) (f : Flags) (l : List Segment) (g p : Target) (rest : List Segment) : Type 0 where
  pub same : walked t f rest p ≡ walked t f l g
  pub shorter : length rest < length l
  pub standing : Standing t p

abbrev pub Steps : Tables → Flags → List Segment → Target → Result (Place × Rest) Status → Type 0
Steps t f l g (Ok v) = Onward t f l g (place_of v.0) (left v.1)
Steps t f l g (Err s) = turned (status_of s) ≡ walked t f l g
