-- What the first byte of a segment begins, as the code's table has it.
use Rattle.std.specs.Prelude.{ℕ, Option, None, Some, not, ◌%◌, ltb, eqb}
use Rattle.definition.specs.Segment.{Kind, port_kind, class_kind, instance_kind, element_kind, attribute_kind, symbol_kind, no_kind, kind_of, form, Segment, class, instance, element, attribute}
use Rattle.path.specs.declared.table.First.{First}
use Rattle.path.specs.declared.table.First.TheVariants.{Port, Logical, Symbol}
use Rattle.path.specs.declared.table.Logical.{Logical as LogicalType}
use Rattle.path.specs.declared.table.Logical.TheVariants.{Class, Instance, Element, Attribute}
use Rattle.path.specs.declared.table.Format.{Format}
use Rattle.path.specs.declared.table.Format.TheVariants.{Bits8, PadAnd16, PadAnd32, Reserved}
use Rattle.laws.specs.Pick.{pick}

-- a format by its two bits
abbrev pub format_of : ℕ → Format
format_of f = pick (eqb f 0) Bits8 (pick (eqb f 1) PadAnd16 (pick (eqb f 2) PadAnd32 Reserved))

abbrev pub bits_of : Format → ℕ
bits_of Bits8 = 0
bits_of PadAnd16 = 1
bits_of PadAnd32 = 2
bits_of Reserved = 3

abbrev pub first_by : Kind → ℕ → Option First
first_by no_kind b = None
first_by port_kind b = Some (Port (eqb (b % 16) 15) (not (ltb b 0x10)))
first_by class_kind b = Some (Logical Class (format_of (form b)))
first_by instance_kind b = Some (Logical Instance (format_of (form b)))
first_by element_kind b = Some (Logical Element (format_of (form b)))
first_by attribute_kind b = Some (Logical Attribute (format_of (form b)))
first_by symbol_kind b = Some Symbol

unfoldable pub first_of : ℕ → Option First
first_of b = first_by (kind_of b) b

-- the segment of a logical type that has this value
abbrev pub logical_of : LogicalType → ℕ → Segment
logical_of Class x = class x
logical_of Instance x = instance x
logical_of Element x = element x
logical_of Attribute x = attribute x
