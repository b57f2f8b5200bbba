-- What a write leaves, as the definition answers it, and a write's fields as the code has them.
use Rattle.std.specs.Prelude.{◌≡◌, List, ℕ, ltb, eqb, length, Option, Some, None, Result, Ok, Err}
use Rattle.laws.specs.Pick.{pick, is_some}
use Rattle.definition.specs.Bytes.{u32_at}
use Rattle.definition.specs.Reply.{Status as DefinedStatus, answered, fail, success}
use Rattle.definition.specs.Write.{Stored, store_answer, fields_size, fields_of, Fields as DefinedFields}
use Rattle.cip.specs.Statuses.{status_of}
use Rattle.cip.specs.declared.Status.{Status}
use Rattle.writes.specs.declared.values.Fields.{Fields}

-- the reply's status: Success, or why nothing was stored
abbrev pub status_said : Result (Unit {0}) Status → DefinedStatus
status_said (Ok u) = success
status_said (Err status) = status_of status

-- the status returned and the memory at exit are those of the definition's answer, whatever the service
pub record Stores (s : Stored) (old : List ℕ) (r : Result (Unit {0}) Status) (new : List ℕ) : Type 0 where
  pub answer_is : (service : ℕ) → store_answer service s old ≡ answered (fail service (status_said r)) new

-- the fields and the value behind them; 0 where the service brings no offset
abbrev pub or_zero : Option ℕ → ℕ
or_zero None = 0
or_zero (Some offset) = offset

abbrev pub fields_as : Fields → DefinedFields
fields_as w = record {
  type = w.ty;
  handle = w.handle;
  elements = w.elements;
  offset = or_zero w.offset;
  value = w.value.now;
}

abbrev pub fields_found : Option Fields → Option DefinedFields
fields_found (Some w) = Some (fields_as w)
fields_found None = None

-- the fields of a body that has all of them
abbrev pub fields_in : (service : ℕ) (body : List ℕ) → Option DefinedFields
fields_in service body = pick (ltb (length body) (fields_size service body)) None (Some (fields_of service body))

abbrev pub write_offset : (service : ℕ) (body : List ℕ) (at : ℕ) → Option ℕ
write_offset service body at = pick (eqb service 0x53) (Some (u32_at body at)) None

-- 0x53 brings an offset, and no other service
abbrev pub BringsOffset : (service : ℕ) → Option Fields → Type 0
BringsOffset service None = Unit {0}
BringsOffset service (Some w) = eqb service 0x53 ≡ is_some w.offset

-- a service by the offset that it brings
abbrev pub service_of : (offset : Option ℕ) → ℕ
service_of None = 0x4D
service_of (Some offset) = 0x53
