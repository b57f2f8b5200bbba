-- A whole read: the continued read of point 3, done by the program itself. What it comes to, and what the lent buffer and the
-- reply buffer hold afterwards: the joined bytes are the selected ones, whatever the limit, and the last reply stays in the reply buffer.
use Rattle.std.specs.Prelude.{Bool, false, not, List, ℕ, ◌+◌, ◌*◌, ◌/◌, ◌%◌, ltb, leb, eqb, length, get_or, drop}
use Rattle.std.specs.Prelude.{Option, None, Some, Result, Ok, Err}
use Rattle.laws.specs.Pick.{pick, both}
use Rattle.laws.specs.Put.{put, laid}
use Rattle.laws.specs.Until.{until}
use Rattle.definition.specs.Bytes.{u16_at}
use Rattle.definition.specs.Reply.{room}
use Rattle.definition.specs.Segment.{Segment, segments}
use Rattle.definition.specs.Request.{is_tag_path}
use Rattle.definition.specs.Tables.{Tables, Flags}
use Rattle.definition.specs.Access.{tag_target}
use Rattle.definition.specs.Fragment.{space, rounded, fragment_reply}
use Rattle.definition.specs.Read.{Selection, selected_bytes, Asked, granted, not_granted, ask_target}
use Rattle.definition.specs.Answer.{answer}
use Rattle.continued.specs.Point3.{read_request}
use Rattle.logix.specs.declared.entry.Refusal.{Refusal}
use Rattle.logix.specs.Entering.{entered}
use Rattle.whole.specs.declared.ReplyStatus.{ReplyStatus}
use Rattle.whole.specs.declared.Unjoined.{Unjoined}
use Rattle.whole.specs.declared.Unjoined.TheVariants.{TooShort, TooNarrow, Turned, Refused, Unsendable}

-- ---- what a read selects

abbrev pub if_granted : Asked → Option Selection
if_granted (granted s) = Some s
if_granted (not_granted status) = None

abbrev pub chosen_by : Tables → Flags → (elements : ℕ) → Option (List Segment) → Option Selection
chosen_by t f elements None = None
chosen_by t f elements (Some path) = pick (is_tag_path path) (if_granted (ask_target t.structures (tag_target t f false path) elements)) None

-- none where the path does not decode, is no tag path, or the read is not granted
unfoldable pub chosen : Tables → Flags → (path : List ℕ) (elements : ℕ) → Option Selection
chosen t f path elements = chosen_by t f elements (segments path)

-- ---- what the whole read comes to

-- how many bytes are joined, or why nothing is
pub record Received : Type 0 where
  pub result : Result ℕ Unjoined
  pub out : List ℕ
  pub buffer : List ℕ

abbrev pub received : Result ℕ Unjoined → (out buffer : List ℕ) → Received
received result out buffer = record { result = result; out = out; buffer = buffer }

-- a request says its path's length in whole words, in one byte
abbrev pub is_sendable : (path : List ℕ) → Bool
is_sendable path = both (eqb (length path % 2) 0) (leb (length path / 2) 255)

-- what the last of the replies brings of a chunk: as long as it is longer than s, a fragment of it comes and the rest is due
abbrev pub last_chunk : (s : ℕ) (chunk : List ℕ) → List ℕ
last_chunk s chunk = until (λ c. leb (length c) s) (drop (rounded s)) (length chunk) chunk

-- the last of the replies that bring what is selected
abbrev pub last_reply : Selection → (memory : List ℕ) (limit : ℕ) → List ℕ
last_reply s memory limit = fragment_reply 0x52 s.header (last_chunk (space (length s.header) limit) (selected_bytes s memory)) limit

-- the extended word of a reply: behind the third byte, the general status, stands the number of words
unfoldable pub word_in : (reply : List ℕ) → Option ℕ
word_in reply = pick (eqb (get_or reply 3 0) 0) None (Some (u16_at reply 4))

abbrev pub status_in : (reply : List ℕ) → ReplyStatus
status_in reply = record { general = get_or reply 2 0; word = word_in reply }

-- one number for both: the general status, plus 256 times the extended word, 0 where there is none
abbrev pub or_zero : Option ℕ → ℕ
or_zero None = 0
or_zero (Some word) = word

abbrev pub code_of : ReplyStatus → ℕ
code_of status = status.general + 256 * or_zero status.word

-- `first`: the reply to the read from the start, the only one where nothing is selected
unfoldable pub whole_of : Option Selection → (first memory : List ℕ) (limit : ℕ) (buffer out : List ℕ) → Received
whole_of None first memory limit buffer out = received (Err (Turned (status_in first))) out (laid (room limit) buffer first)
whole_of (Some s) first memory limit buffer out =
    let bytes = selected_bytes s memory in
    pick (ltb limit (5 + length s.header)) (received (Err TooNarrow) out buffer)
    (pick (ltb (length out) (length bytes)) (received (Err (TooShort (length bytes))) out buffer)
    (received (Ok (length bytes)) (put out 0 bytes) (laid (room limit) buffer (last_reply s memory limit))))

-- what a read of a path is answered with from the start
abbrev pub first_reply : Tables → Flags → (memory path : List ℕ) (elements limit : ℕ) → List ℕ
first_reply t f memory path elements limit = (answer t f memory (read_request path elements 0) limit).reply

-- where nothing is sent, the reply buffer stays as it was
abbrev pub unless_refused : Result (Unit {0}) Refusal → (buffer out : List ℕ) → (taken : Received) → Received
unless_refused (Err why) buffer out taken = received (Err (Refused why)) out buffer
unless_refused (Ok entered) buffer out taken = taken

-- `buffer` is the reply buffer
unfoldable pub whole_read : Tables → Flags → (memory path : List ℕ) (elements limit : ℕ) (buffer out : List ℕ) → Received
whole_read t f memory path elements limit buffer out =
    pick (not (is_sendable path)) (received (Err Unsendable) out buffer)
    (unless_refused (entered t (length memory) limit (length buffer)) buffer out
    (whole_of (chosen t f path elements) (first_reply t f memory path elements limit) memory limit buffer out))
