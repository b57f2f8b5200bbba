-- Whether a service on a path is an envelope's: 0x0A on class 0x02 instance 1.
use Rattle.std.specs.Prelude.{◌≡◌, Bool, List, ℕ, eqb}
use Rattle.std.specs.Prelude.{Some}
use Rattle.laws.specs.Pick.{both}
use Rattle.definition.specs.Segment.{Segment, segments}
use Rattle.definition.specs.Request.{object_of}
use Rattle.definition.specs.Envelope.{envelope_service}
use Rattle.definition.specs.Answer.{is_router}

pub record EnvelopeTest (service : ℕ) (path : List ℕ) (r : Bool) : Type 0 where
  pub is : (l : List Segment) → segments path ≡ Some l → r ≡ both (eqb service envelope_service) (is_router (object_of l))
