-- The parts of an envelope's body that has as many as it says.
use Rattle.std.specs.Prelude.{◌≡◌, false, List, ℕ, Option, None, Some}
use Rattle.laws.specs.Pick.{is_some}
use Rattle.definition.specs.Envelope.{parts_of}
use Rattle.logix.specs.declared.body.Parts.{Parts}

abbrev pub HasParts : (body : List ℕ) → Option Parts → Type 0
HasParts body None = is_some (parts_of body) ≡ false
HasParts body (Some p) = p.body.now ≡ body
