-- What is known of a read before it is sent, and what one reply brings.
use Rattle.std.specs.Prelude.{◌≡◌, List, [], ℕ, ◌+◌, ◌-◌, ◌*◌, ◌≤◌, ◌<◌, eqb, length, take, drop}
use Rattle.std.specs.Prelude.{Option, None, Some, Result, Ok, Err}
use Rattle.laws.specs.Pick.{pick}
use Rattle.laws.specs.Put.{put}
use Rattle.definition.specs.Fragment.{rounded}
use Rattle.definition.specs.Tables.{Tables, Flags, no_bit}
use Rattle.definition.specs.Read.{Selection, selected_bytes}
use Rattle.definition.specs.Answer.{answer}
use Rattle.cip.specs.declared.Status.{Status}
use Rattle.model.specs.Tables.{tables_of, flags_of}
use Rattle.model.specs.declared.Controller.{Controller}
use Rattle.model.specs.declared.Target.{Target}
use Rattle.reads.specs.Reading.{header_size}
use Rattle.continued.specs.Point3.{read_request}
use Rattle.whole.specs.declared.requests.Read.{Read}
use Rattle.whole.specs.declared.sizes.Size.{Size}
use Rattle.whole.specs.declared.asked.Turn.{Turn}
use Rattle.whole.specs.declared.asked.Turn.TheVariants.{Last, More}
use Rattle.whole.specs.Asked.{Taken}
use Rattle.whole.specs.Whole.{chosen, is_sendable, last_reply}

-- so many bytes, behind a type header of so many
abbrev pub sized : (bytes header : ℕ) → Size
sized bytes header = record { bytes = bytes; header = header }

-- the number of bytes selected, and of those of their type header
unfoldable pub sized_of : (memory : List ℕ) → Option Selection → Option Size
sized_of memory None = None
sized_of memory (Some s) = Some (sized (length (selected_bytes s memory)) (length s.header))

-- the same by the target alone: a bit is one byte
abbrev pub sized_by : Target → (elements : ℕ) → Result (Unit {0}) Status → Option Size
sized_by g elements (Ok granted) = Some (sized (pick (eqb g.bit no_bit) (elements * g.size) 1) (header_size g.ty))
sized_by g elements (Err status) = None

abbrev pub chosen_bytes : (memory : List ℕ) → Option Selection → List ℕ
chosen_bytes memory None = []
chosen_bytes memory (Some s) = selected_bytes s memory

abbrev pub last_of : (memory : List ℕ) (limit : ℕ) → Option Selection → List ℕ
last_of memory limit None = []
last_of memory limit (Some s) = last_reply s memory limit

-- a read that selects something, behind a header of so many bytes, with room for a byte behind it and for all of them in the lent buffer
pub record Joinable (t : Tables) (f : Flags) (memory path : List ℕ) (elements limit header out : ℕ) : Type 0 where
  pub selection : Selection
  pub chosen_is : chosen t f path elements ≡ Some selection
  pub header_is : header ≡ length selection.header
  pub some_room : 5 + header ≤ limit
  pub fits : length (selected_bytes selection memory) ≤ out

-- ---- the same of a controller and a read as the code has them

abbrev pub chosen_in : Controller → Read → Option Selection
chosen_in c read = chosen (tables_of c.tables) (flags_of c.flags) read.path.now read.elements

abbrev pub selected_in : Controller → (memory : List ℕ) → Read → List ℕ
selected_in c memory read = chosen_bytes memory (chosen_in c read)

-- what it is answered with from an offset on
abbrev pub reply_at : Controller → (memory : List ℕ) → Read → (offset limit : ℕ) → List ℕ
reply_at c memory read offset limit =
    (answer (tables_of c.tables) (flags_of c.flags) memory (read_request read.path.now read.elements offset) limit).reply

abbrev pub ReadTaken : Controller → (memory : List ℕ) → Read → (limit buffer : ℕ) → Type 0
ReadTaken c memory read limit buffer = Taken (is_sendable read.path.now) (tables_of c.tables) memory limit buffer

abbrev pub ReadJoins : Controller → (memory : List ℕ) → Read → (limit header out : ℕ) → Type 0
ReadJoins c memory read limit header out = Joinable (tables_of c.tables) (flags_of c.flags) memory read.path.now read.elements limit header out

-- ---- one reply's data, joined at the number of bytes received: the rest of what is selected where it has room, else as much of it as is sent

abbrev pub BringsOn : (space : ℕ) (selected : List ℕ) (got : ℕ) (old : List ℕ) → Turn → (new : List ℕ) → Type 0
BringsOn space selected got old (Last n) new = (n ≡ length selected) × (new ≡ put old got (drop got selected)) × (length selected ≤ got + space)
BringsOn space selected got old (More n) new =
    (got < n) × (n < length selected) × (new ≡ put old got (take (n - got) (drop got selected)))
    × (got + space < length selected) × (n ≡ got + rounded space)

pub record Brings (space : ℕ) (selected : List ℕ) (got : ℕ) (old : List ℕ) (v : Turn) (new : List ℕ) : Type 0 where
  pub is : BringsOn space selected got old v new
