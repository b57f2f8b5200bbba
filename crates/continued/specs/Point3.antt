-- Point 3 of document 00, said of the definition itself: what is sent, what else may happen, and what has to hold of it. The claims stand in Reads and Pages.
use Rattle.std.specs.Prelude.{◌≡◌, true, false, List, [], ◌∷◌, ◌++◌, ℕ, ◌*◌, ◌/◌, ◌≤◌, ◌<◌, length}
use Rattle.std.specs.Prelude.{Some}
use Rattle.laws.specs.Tests.{every}
use Rattle.definition.specs.Bytes.{u16_at, u32_at, le16, le32, counted}
use Rattle.definition.specs.Segment.{Segment, segments}
use Rattle.definition.specs.Request.{request, request_of, is_tag_path}
use Rattle.definition.specs.Tables.{Tables, Flags}
use Rattle.definition.specs.Valid.{valid}
use Rattle.definition.specs.Access.{tag_target}
use Rattle.definition.specs.Read.{Selection, selected_bytes, granted, ask_target, fields, read_fields}
use Rattle.definition.specs.Symbols.{is_listed, page_start, due}
use Rattle.definition.specs.Answer.{is_read}
use Rattle.definition.specs.Entry.{Outcome, Entered, entry}
use Rattle.definition.specs.Promises.{Grants}
use Rattle.continued.specs.Reads.{Sent, Turn, talk, Fair, Delivered}
use Rattle.continued.specs.Pages.{FairPages, Listed}

-- ---- the controller: the definition's entry, over tables and flags that stay; its state is tag memory

abbrev pub Memory : Type 0
Memory = List ℕ

unfoldable pub respond : Tables → Flags → Sent → Memory → Entered
respond t f s m = entry t f m s.request s.limit s.buffer

abbrev pub hears : Tables → Flags → Sent → Memory → Outcome
hears t f s m = (respond t f s m).outcome

abbrev pub leaves : Tables → Flags → Sent → Memory → Memory
leaves t f s m = (respond t f s m).memory

-- what else may happen: any other message, or somebody else leaves tag memory like this
pub data Event : Type 0 where
  message : Sent → Event
  changed : Memory → Event

abbrev pub steps : Tables → Flags → Event → Memory → Memory
steps t f (message s) m = leaves t f s m
steps t f (changed left) m = left

-- what may fall between two of ours: any message, and a change that leaves as many bytes
abbrev pub Between : Event → Memory → Type 0
Between (message s) m = Unit {0}
Between (changed left) m = length left ≡ length m

-- ---- continued reads

-- a continued read in any bytes: what the definition decodes as a read, 0x52 or 0x4C, of these segments with this element count and this offset, whatever
-- follows the fields
pub record Asks (path : List Segment) (elements : ℕ) (message : List ℕ) (offset : ℕ) : Type 0 where
  pub service : ℕ
  pub body : List ℕ
  pub reads : is_read service ≡ true
  pub is : request_of message ≡ request service path body
  pub fields_are : read_fields service body ≡ fields elements offset

-- a 0x52 is one at the offset that it sends
abbrev pub FragmentedAsks : Type 0
FragmentedAsks =
    (path : List Segment) (message body : List ℕ) → request_of message ≡ request 0x52 path body → 6 ≤ length body
    → Asks path (u16_at body 0) message (u32_at body 2)

-- a 0x4C is one at offset 0 and at no other: so it stands where nothing was received yet, and opens the read
abbrev pub PlainAsks : Type 0
PlainAsks =
    (path : List Segment) (message body : List ℕ) → request_of message ≡ request 0x4C path body → 2 ≤ length body
    → Asks path (u16_at body 0) message 0

abbrev pub PlainAt0 : Type 0
PlainAt0 =
    (path : List Segment) (elements : ℕ) (message : List ℕ) (offset : ℕ) (a : Asks path elements message offset) → a.service ≡ 0x4C → offset ≡ 0

abbrev pub Reads : (path : List Segment) (elements : ℕ) → Memory → Sent → ℕ → Type 0
Reads path elements m s offset = Asks path elements s.request offset

abbrev pub FairReads : Tables → Flags → (reads : Memory → Sent → ℕ → Type 0) → Selection → Memory → List (Turn Event) → Type 0
FairReads t f reads s m turns = Fair (hears t f) (leaves t f) (steps t f) reads (selected_bytes s) Between (length s.header) m [] turns

abbrev pub ReadsDeliver : Tables → Flags → Selection → Memory → List (Turn Event) → Type 0
ReadsDeliver t f s m turns = Delivered (selected_bytes s m) (length s.header) (talk (hears t f) (leaves t f) (steps t f) (length s.header) m [] turns)

-- valid tables, and a path and element count that are granted (by `OpeningNotRefused` of the definition's Promises: a read at offset 0, plain or
-- fragmented, has status 0x00 or 0x06)
abbrev pub ContinuedReads : Type 0
ContinuedReads =
    (t : Tables) (f : Flags) (path : List Segment) (elements : ℕ) (g : Grants t f path elements) (m : Memory) (turns : List (Turn Event))
    → valid t (length m) ≡ true → FairReads t f (Reads path elements) g.selected m turns → ReadsDeliver t f g.selected m turns

-- ---- continued pages

-- a continued page in any bytes: what the definition reads as a 0x55 of this scope, start ID and attribute list
pub record AsksPage (t : Tables) (scope : ℕ) (attributes : List ℕ) (message : List ℕ) (id : ℕ) : Type 0 where
  pub path : List Segment
  pub body : List ℕ
  pub is : request_of message ≡ request 0x55 path body
  pub starts : page_start t path ≡ Some (record { scope = scope; id = id })
  pub list_is : counted body ≡ Some attributes

abbrev pub Pages : Tables → (scope : ℕ) (attributes : List ℕ) → Memory → Sent → ℕ → Type 0
Pages t scope attributes m s id = AsksPage t scope attributes s.request id

abbrev pub FairList : Tables → Flags → (pages : Memory → Sent → ℕ → Type 0) → (scope : ℕ) (attributes : List ℕ) (first : ℕ) → Memory → List (Turn Event)
    → Type 0
FairList t f pages scope attributes first m turns =
    FairPages (hears t f) (leaves t f) (steps t f) pages (λ m. due t scope attributes first) first Between m [] turns

abbrev pub PagesDeliver : Tables → Flags → (scope : ℕ) (attributes : List ℕ) (first : ℕ) → Memory → List (Turn Event) → Type 0
PagesDeliver t f scope attributes first m turns = Listed (due t scope attributes first) (talk (hears t f) (leaves t f) (steps t f) 0 m [] turns)

-- valid tables, and an attribute list that is accepted
abbrev pub ContinuedPages : Type 0
ContinuedPages =
    (t : Tables) (f : Flags) (scope : ℕ) (attributes : List ℕ) (first : ℕ) (m : Memory) (turns : List (Turn Event))
    → valid t (length m) ≡ true → every is_listed attributes ≡ true
    → FairList t f (Pages t scope attributes) scope attributes first m turns → PagesDeliver t f scope attributes first m turns

-- ---- the same for exact bytes, as `read_whole` and `list_whole` send them

-- a path's bytes as a request carries them: whole 16-bit words, at most 255 of them, which decode to these segments
pub record Encodes (path : List ℕ) (decoded : List Segment) : Type 0 where
  pub whole_words : 2 * (length path / 2) ≡ length path
  pub one_byte : length path / 2 ≤ 255
  pub decodes : segments path ≡ Some decoded

-- the exact bytes of a 0x52 request for a path, an element count and an offset, and of a 0x4C request
unfoldable pub read_request : (path : List ℕ) (elements offset : ℕ) → List ℕ
read_request path elements offset = 0x52 ∷ length path / 2 ∷ path ++ le16 elements ++ le32 offset

unfoldable pub open_request : (path : List ℕ) (elements : ℕ) → List ℕ
open_request path elements = 0x4C ∷ length path / 2 ∷ path ++ le16 elements

-- valid tables; a decodable tag path whose target the definition grants, for a 16-bit element count: what is selected, behind which header
pub record Readable (t : Tables) (f : Flags) (m : Memory) (path : List ℕ) (elements : ℕ) (s : Selection) : Type 0 where
  pub tables : valid t (length m) ≡ true
  pub decoded : List Segment
  pub encodes : Encodes path decoded
  pub tag_path : is_tag_path decoded ≡ true
  pub count : elements < 65536
  pub grants : ask_target t.structures (tag_target t f false decoded) elements ≡ granted s

abbrev pub ExactReads : (path : List ℕ) (elements : ℕ) → Memory → Sent → ℕ → Type 0
ExactReads path elements m s offset = s.request ≡ read_request path elements offset

abbrev pub ExactReadsDeliver : Type 0
ExactReadsDeliver =
    (t : Tables) (f : Flags) (path : List ℕ) (elements : ℕ) (s : Selection) (m : Memory) (turns : List (Turn Event))
    → Readable t f m path elements s → FairReads t f (ExactReads path elements) s m turns → ReadsDeliver t f s m turns

abbrev pub number_bytes : List ℕ → List ℕ
number_bytes [] = []
number_bytes (a ∷ rest) = le16 a ++ number_bytes rest

-- the exact bytes of a 0x55 request for a path and an attribute list
unfoldable pub page_request : (path attributes : List ℕ) → List ℕ
page_request path attributes = 0x55 ∷ length path / 2 ∷ path ++ le16 (length attributes) ++ number_bytes attributes

-- valid tables, and an attribute list that is accepted
pub record Listable (t : Tables) (m : Memory) (attributes : List ℕ) : Type 0 where
  pub tables : valid t (length m) ≡ true
  pub count : length attributes < 65536
  pub accepted : every is_listed attributes ≡ true

-- a path of this scope and start ID, in any encoding
pub record StartsPageAt (t : Tables) (scope id : ℕ) (path : List ℕ) : Type 0 where
  pub decoded : List Segment
  pub encodes : Encodes path decoded
  pub starts : page_start t decoded ≡ Some (record { scope = scope; id = id })

abbrev pub ExactPages : Tables → (scope : ℕ) (attributes : List ℕ) → Memory → Sent → ℕ → Type 0
ExactPages t scope attributes m s id = (path : List ℕ) × StartsPageAt t scope id path × (s.request ≡ page_request path attributes)

abbrev pub ExactPagesDeliver : Type 0
ExactPagesDeliver =
    (t : Tables) (f : Flags) (scope : ℕ) (attributes : List ℕ) (first : ℕ) (m : Memory) (turns : List (Turn Event))
    → Listable t m attributes
    → FairList t f (ExactPages t scope attributes) scope attributes first m turns → PagesDeliver t f scope attributes first m turns
