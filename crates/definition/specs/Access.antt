-- Document 01, items 14 and 15: a tag service's target, or the status that turns the service away before its data is looked at.
-- All of it is document 01's alone; 1756-PM020 names external access.
use Rattle.std.specs.Prelude.{Bool, List, eqb}
use Rattle.laws.specs.Pick.{pick, both, either}
use Rattle.definition.specs.Reply.{denied}
use Rattle.definition.specs.Segment.{Segment}
use Rattle.definition.specs.Tables.{Tables, Flags, is_aoi}
use Rattle.definition.specs.Types.{is_structure, structure_of}
use Rattle.definition.specs.Lookup.{marked, has_locals}
use Rattle.definition.specs.Resolve.{Target, Resolved, found, turned, resolve, and_then}

-- an AOI type with locals when these are refused; the target's own structure only
unfoldable pub refuses_locals : Tables → Flags → Target → Bool
refuses_locals t f g =
    let s = structure_of t g.type in
    both f.aoi_locals_refused (both (is_structure g.type) (both (marked (is_aoi s)) (has_locals t s)))

-- access 3, a write at access 2, or such a type
unfoldable pub is_denied : Tables → Flags → (writes : Bool) → Target → Bool
is_denied t f writes g =
    either (eqb g.access 3) (either (both writes (eqb g.access 2)) (refuses_locals t f g))

unfoldable pub permitted : Tables → Flags → (writes : Bool) → Target → Resolved
permitted t f writes g = pick (is_denied t f writes g) (turned denied) (found g)

unfoldable pub tag_target : Tables → Flags → (writes : Bool) → List Segment → Resolved
tag_target t f writes path = and_then (resolve t f path) (permitted t f writes)
