-- A whole list: the continued symbol pages of point 3, asked for by the program itself. What it comes to, and what the lent
-- buffer and the reply buffer hold afterwards: the joined bytes are the entries of all symbols of the scope, ascending by ID, whatever the limit.
use Rattle.std.specs.Prelude.{Bool, not, List, [], ◌∷◌, ◌++◌, ℕ, suc, ◌+◌, ◌-◌, ◌/◌, ◌%◌, max, ltb, leb, eqb, length, drop}
use Rattle.std.specs.Prelude.{Option, None, Some, Ok, Err}
use Rattle.laws.specs.Pick.{pick, both}
use Rattle.laws.specs.Put.{put, laid}
use Rattle.laws.specs.Tests.{every}
use Rattle.laws.specs.Until.{until}
use Rattle.definition.specs.Bytes.{le32, counted}
use Rattle.definition.specs.Reply.{room}
use Rattle.definition.specs.Tables.{Tables, Flags}
use Rattle.definition.specs.Lookup.{program_of}
use Rattle.definition.specs.Page.{Entry, bytes_of, fitting, page_reply}
use Rattle.definition.specs.Symbols.{is_listed, due}
use Rattle.definition.specs.Answer.{answer}
use Rattle.logix.specs.Entering.{entered}
use Rattle.whole.specs.declared.Unjoined.TheVariants.{TooShort, TooNarrow, Turned, Unsendable}
use Rattle.whole.specs.Whole.{Received, received, status_in, unless_refused}

-- ---- what is asked for

-- the scope: the controller's where no name is given
abbrev pub scope_named : Option ℕ → Option ℕ
scope_named None = None
scope_named (Some k) = Some (suc k)

unfoldable pub scope_of : Tables → (program : List ℕ) → Option ℕ
scope_of t program = pick (eqb (length program) 0) (Some 0) (scope_named (program_of t program))

abbrev pub entries_in : Tables → (scope : Option ℕ) → (numbers : Option (List ℕ)) → Option (List Entry)
entries_in t None numbers = None
entries_in t (Some scope) None = None
entries_in t (Some scope) (Some numbers) = pick (every is_listed numbers) (Some (due t scope numbers 0)) None

-- all entries of the scope; none where the scope is unknown, the list of attributes short, or one of its numbers unknown
unfoldable pub entries_of : Tables → (program attributes : List ℕ) → Option (List Entry)
entries_of t program attributes = entries_in t (scope_of t program) (counted attributes)

-- ---- what is sent

-- a name as a path carries it: a symbol segment, with a pad behind an odd number of bytes
abbrev pub name_path : (name : List ℕ) → List ℕ
name_path name = 0x91 ∷ length name ∷ name ++ pick (eqb (length name % 2) 0) [] (0 ∷ [])

unfoldable pub scope_path : (program : List ℕ) → List ℕ
scope_path program = pick (eqb (length program) 0) [] (name_path program)

-- class 0x6B, and the start ID as an instance of 32 bits
unfoldable pub list_path : (program : List ℕ) (id : ℕ) → List ℕ
list_path program id = scope_path program ++ (0x20 ∷ 0x6B ∷ 0x26 ∷ 0x00 ∷ le32 id)

-- the exact bytes of a 0x55 request for the symbols of a scope from an ID on
unfoldable pub list_request : (program attributes : List ℕ) (id : ℕ) → List ℕ
list_request program attributes id = 0x55 ∷ length (list_path program id) / 2 ∷ list_path program id ++ attributes

-- a name's length is one byte, so a path has at most 133 words; a list of attributes has at most 1,024 bytes, so a request at most 1,292
abbrev pub is_askable : (program attributes : List ℕ) → Bool
is_askable program attributes = both (leb (length program) 255) (leb (length attributes) 1024)

-- what a page from ID 0 on is answered with
abbrev pub first_page : Tables → Flags → (memory program attributes : List ℕ) (limit : ℕ) → List ℕ
first_page t f memory program attributes limit = (answer t f memory (list_request program attributes 0) limit).reply

-- ---- what the whole list comes to

unfoldable pub longest : List Entry → ℕ
longest [] = 0
longest (e ∷ es) = max (length e.bytes) (longest es)

-- what a page leaves due
abbrev pub behind : (limit : ℕ) → List Entry → List Entry
behind limit entries = drop (fitting (limit - 4) entries) entries

-- the entries that the last page is asked for: as long as not all fit, those that fit come and the rest is due
abbrev pub last_page : (limit : ℕ) → List Entry → List Entry
last_page limit entries = until (λ es. eqb (fitting (limit - 4) es) (length es)) (behind limit) (length entries) entries

-- `first`: the reply to a page from ID 0 on, the only one where no page is granted
unfoldable pub whole_of_list : Option (List Entry) → (first : List ℕ) (limit : ℕ) (buffer out : List ℕ) → Received
whole_of_list None first limit buffer out = received (Err (Turned (status_in first))) out (laid (room limit) buffer first)
whole_of_list (Some entries) first limit buffer out =
    let bytes = bytes_of entries in
    pick (ltb limit (4 + longest entries)) (received (Err TooNarrow) out buffer)
    (pick (ltb (length out) (length bytes)) (received (Err (TooShort (length bytes))) out buffer)
    (received (Ok (length bytes)) (put out 0 bytes) (laid (room limit) buffer (page_reply 0x55 (last_page limit entries) limit))))

-- `buffer` is the reply buffer; where nothing is sent, it stays as it was
unfoldable pub whole_list : Tables → Flags → (memory program attributes : List ℕ) (limit : ℕ) (buffer out : List ℕ) → Received
whole_list t f memory program attributes limit buffer out =
    pick (not (is_askable program attributes)) (received (Err Unsendable) out buffer)
    (unless_refused (entered t (length memory) limit (length buffer)) buffer out
    (whole_of_list (entries_of t program attributes) (first_page t f memory program attributes limit) limit buffer out))
