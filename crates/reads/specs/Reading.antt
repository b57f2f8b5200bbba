-- A read's fields and its refusals as the code has them, and the size of a type header.
use Rattle.std.specs.Prelude.{ℕ, List, ltb, eqb, Option, Some, None, Result, Ok, Err}
use Rattle.laws.specs.Pick.{pick}
use Rattle.definition.specs.Tables.{no_bit}
use Rattle.definition.specs.Types.{is_structure}
use Rattle.definition.specs.Read.{Selection, Asked, granted, not_granted, ReadFields as Defined, fields, short}
use Rattle.cip.specs.Statuses.{status_of}
use Rattle.cip.specs.declared.Status.{Status}
use Rattle.cip.specs.declared.Status.TheVariants.{NoElements, BeyondEnd}
use Rattle.reads.specs.declared.ReadFields.{ReadFields}
use Rattle.reads.specs.declared.Store.{Store}
use Rattle.reads.specs.declared.Store.TheVariants.{Templates, Memory}

-- the fields that the code's answer stands for
abbrev pub fields_as : Option ReadFields → Defined
fields_as (Some f) = fields f.elements f.offset
fields_as None = short

-- a read's refusals, offset and missing data aside: it is granted, or turned away with a status
abbrev pub grant_of : (bit count elements : ℕ) → Result (Unit {0}) Status
grant_of bit count elements =
    pick (eqb bit no_bit)
    (pick (eqb elements 0) (Err NoElements) (pick (ltb count elements) (Err BeyondEnd) (Ok tt)))
    (pick (eqb elements 1) (Ok tt) (Err BeyondEnd))

-- the definition's answer, by the code's and by what a granted read selects
abbrev pub asked_by : Selection → Result (Unit {0}) Status → Asked
asked_by s (Ok u) = granted s
asked_by s (Err status) = not_granted (status_of status)

abbrev pub header_size : (type : ℕ) → ℕ
header_size type = pick (is_structure type) 4 2

-- the store that holds a fragment
abbrev pub stored : Store → (templates memory : List ℕ) → List ℕ
stored Templates templates memory = templates
stored Memory templates memory = memory
