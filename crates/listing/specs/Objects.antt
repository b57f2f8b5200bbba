-- The objects whose attributes are asked for.
use Rattle.std.specs.Prelude.{ℕ, List}
use Rattle.std.specs.Prelude.{Option, None, Some}
use Rattle.definition.specs.Attributes.{structure_attribute, program_reference}
use Rattle.definition.specs.Tables.{Tables}
use Rattle.model.specs.Tables.{for_attributes}
use Rattle.listing.specs.Values.{value_bytes}
use Rattle.listing.specs.declared.values.Value.{Value}
use Rattle.listing.specs.declared.attributes.Object.{Object}
use Rattle.listing.specs.declared.attributes.Object.TheVariants.{Structure, Symbol}

-- the tables that a symbol's attributes are found in, in another table set
abbrev pub attributes_lent : Tables → Tables → Tables
attributes_lent t = for_attributes t.programs t.tags t.others t.names

abbrev pub bytes_of : Option Value → Option (List ℕ)
bytes_of None = None
bytes_of (Some value) = Some (value_bytes value)

abbrev pub object_value : Object → (number : ℕ) → Option (List ℕ)
object_value (Structure row) a = structure_attribute row.now a
object_value (Symbol program) a = program_reference program a
