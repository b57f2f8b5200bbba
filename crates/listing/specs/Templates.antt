-- A template read by the bytes that are due, and the place of the templates.
use Rattle.std.specs.Prelude.{ℕ, ◌+◌, ◌-◌, ◌<◌, ◌≤◌, List, [], length, take, leb, eqb, get_or}
use Rattle.laws.specs.Pick.{pick}
use Rattle.definition.specs.Reply.{reply, fail, success, partial, too_large}
use Rattle.definition.specs.Tables.{Tables, Row, template_start, template_length}
use Rattle.model.specs.Tables.{for_template}

-- the tables that a template is read from, in another table set
abbrev pub template_lent : Tables → Tables → Tables
template_lent t = for_template t.structures t.templates

-- `send_template`, of the bytes that are due
unfoldable pub cut_to_limit : (service : ℕ) (due : List ℕ) (limit : ℕ) → List ℕ
cut_to_limit service due limit =
    pick (leb (length due) (limit - 4)) (reply service success due)
    (pick (eqb (limit - 4) 0) (fail service too_large) (reply service partial (take (limit - 4) due)))

-- each template lies in a store of so many bytes
abbrev pub InStore : ℕ → List Row → Type 0
InStore n structures = (i : ℕ) → i < length structures → template_start (get_or structures i []) + template_length (get_or structures i []) ≤ n
