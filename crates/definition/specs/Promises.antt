-- Theorems about the definition, each a named statement; proofs/Theorems, Granted, Inside, Stored, OtherNames, OneRead and Joined prove them.
-- Points 1 to 3 are those of document 00: the first part is point 1, and what points 2 and 3 lean on follows; then what document 02 adds.
use Rattle.std.specs.Prelude.{◌≡◌, ◌≢◌, ◌↔◌, ◌⊎◌, Bool, true, false, List, [], ◌∷◌, ℕ, ◌+◌, ◌*◌, ◌≤◌, ◌<◌, ltb, eqb, length, get_or, drop}
use Rattle.std.specs.Prelude.{Some}
use Rattle.std.specs.Int.Bits.{bit_or, bit_and}
use Rattle.laws.specs.Pick.{pick, ◌&◌}
use Rattle.laws.specs.Put.{put}
use Rattle.laws.specs.Tests.{every, pairs, some_of}
use Rattle.definition.specs.Bytes.{u16_at, u32_at, part}
use Rattle.definition.specs.Reply.{room, fail, too_short}
use Rattle.definition.specs.Segment.{Segment}
use Rattle.definition.specs.Request.{request, request_of, is_tag_path}
use Rattle.definition.specs.Tables.{Tables, Flags, Row, no_bit, structure_name, member_name, program_name, tag_name, tag_offset, other_name}
use Rattle.definition.specs.Types.{atomic_size, is_atomic, element_size, type_header}
use Rattle.definition.specs.Lookup.{tag_at}
use Rattle.definition.specs.Valid.{encoded, t1, is_name, is_other_name, tag_names_differ, other_names_differ, program_names_differ, t3, t4, t5, t6, valid, tag_end}
use Rattle.definition.specs.Resolve.{Target, found}
use Rattle.definition.specs.Access.{tag_target}
use Rattle.definition.specs.Read.{Selection, granted, ask, ask_target, send, read_at, fields, read_fields, read_reply}
use Rattle.definition.specs.Masked.{masked, takes_mask}
use Rattle.definition.specs.Envelope.{envelope_service, part_answer}
use Rattle.definition.specs.Answer.{is_read, is_write, part_dispatch, answer}
use Rattle.definition.specs.Entry.{refused, replied, entry}
use Rattle.definition.specs.Joined.{Masks, masked_by, join, join_row, no_change, is_byte, masks_in}

-- ---- for all tables, flags, memories, messages, limits and buffers

-- an entry refusal is one of the four numbers, and leaves memory and buffer as they were
abbrev pub RefusalChangesNothing : Type 0
RefusalChangesNothing =
    (t : Tables) (f : Flags) (memory message : List ℕ) (limit : ℕ) (buffer : List ℕ) (number : ℕ)
    → (entry t f memory message limit buffer).outcome ≡ refused number
    → (0 < number) × (number ≤ 4) × ((entry t f memory message limit buffer).buffer ≡ buffer) × ((entry t f memory message limit buffer).memory ≡ memory)

abbrev pub MemoryKeepsItsLength : Type 0
MemoryKeepsItsLength =
    (t : Tables) (f : Flags) (memory message : List ℕ) (limit : ℕ) (buffer : List ℕ)
    → length (entry t f memory message limit buffer).memory ≡ length memory

abbrev pub ReplyFits : Type 0
ReplyFits =
    (t : Tables) (f : Flags) (memory message : List ℕ) (limit : ℕ) (buffer r : List ℕ)
    → (entry t f memory message limit buffer).outcome ≡ replied r → length r ≤ room limit

-- the general statuses of items 5 to 20
unfoldable pub is_status : ℕ → Bool
is_status code =
    some_of (eqb code) (0x00 ∷ 0x03 ∷ 0x04 ∷ 0x05 ∷ 0x06 ∷ 0x08 ∷ 0x0F ∷ 0x11 ∷ 0x13 ∷ 0x14 ∷ 0x15 ∷ 0x1E ∷ 0xFF ∷ [])

-- whatever is sent, the reply has four bytes at least, and its third is one of these
abbrev pub ReplyHasAStatus : Type 0
ReplyHasAStatus =
    (t : Tables) (f : Flags) (memory message : List ℕ) (limit : ℕ) (buffer r : List ℕ)
    → (entry t f memory message limit buffer).outcome ≡ replied r → (4 ≤ length r) × (is_status (get_or r 2 0) ≡ true)

-- a refused 0x4D, 0x53 or 0x4E sent alone leaves tag memory as it was, whatever its path: also one that does not decode
abbrev pub RefusedWriteChangesNothing : Type 0
RefusedWriteChangesNothing =
    (t : Tables) (f : Flags) (memory message : List ℕ) (limit : ℕ) (buffer r : List ℕ)
    → is_write (get_or message 0 0) ≡ true
    → (entry t f memory message limit buffer).outcome ≡ replied r → get_or r 2 0 ≢ 0x00
    → (entry t f memory message limit buffer).memory ≡ memory

-- a part of an envelope that does not start 0x0A is answered as the dispatcher answers the same bytes alone
abbrev pub PartIsAnswer : Type 0
PartIsAnswer =
    (t : Tables) (f : Flags) (memory message : List ℕ) (limit : ℕ)
    → get_or message 0 0 ≢ envelope_service → part_answer (part_dispatch t f) memory message limit ≡ answer t f memory message limit

-- ---- point 3's first read: where it is not refused

-- a tag path whose target the definition grants, for an element count: what is selected
pub record Grants (t : Tables) (f : Flags) (path : List Segment) (elements : ℕ) : Type 0 where
  pub tag_path : is_tag_path path ≡ true
  pub selected : Selection
  pub granted_is : ask_target t.structures (tag_target t f false path) elements ≡ granted selected

-- once past the entry, a 0x52 at offset 0 has status 0x00 or 0x06 exactly where its path and element count are granted
abbrev pub NotRefused : Type 0
NotRefused =
    (t : Tables) (f : Flags) (memory message : List ℕ) (limit : ℕ) (buffer r : List ℕ) (path : List Segment) (body : List ℕ)
    → request_of message ≡ request 0x52 path body → 6 ≤ length body → u32_at body 2 ≡ 0
    → (entry t f memory message limit buffer).outcome ≡ replied r
    → ((get_or r 2 0 ≡ 0x00) ⊎ (get_or r 2 0 ≡ 0x06)) ↔ Grants t f path (u16_at body 0)

-- ---- a target lies in its tag's bytes, and these in tag memory

pub record Lies (t : Tables) (memory : ℕ) (g : Target) : Type 0 where
  pub tag : g.tag < length t.tags
  pub some_elements : 0 < g.count
  pub some_bytes : 0 < element_size t g.type
  pub after_start : tag_offset (tag_at t g.tag) ≤ g.start
  pub before_end : g.start + g.count * element_size t g.type ≤ tag_end t (tag_at t g.tag)
  pub in_memory : tag_end t (tag_at t g.tag) ≤ memory
  pub bit : g.bit ≤ no_bit

abbrev pub TargetLiesInItsTag : Type 0
TargetLiesInItsTag =
    (t : Tables) (f : Flags) (memory : ℕ) (writes : Bool) (path : List Segment) (g : Target)
    → valid t memory ≡ true → tag_target t f writes path ≡ found g → Lies t memory g

-- ---- once for all widths

-- a masked write, byte by byte
abbrev pub MaskedAtAnyWidth : Type 0
MaskedAtAnyWidth =
    (bytes ors ands : List ℕ) → length ors ≡ length bytes → length ands ≡ length bytes
    → (length (masked bytes ors ands) ≡ length bytes)
    × ((i : ℕ) → i < length bytes → get_or (masked bytes ors ands) i 0 ≡ bit_and (bit_or (get_or bytes i 0) (get_or ors i 0)) (get_or ands i 0))

-- an atomic element has 1, 2, 4 or 8 bytes; a type header has 2 or 4
abbrev pub ElementSizes : Type 0
ElementSizes = (code : ℕ) → is_atomic code ≡ true → some_of (eqb (atomic_size code)) (1 ∷ 2 ∷ 4 ∷ 8 ∷ []) ≡ true

abbrev pub HeaderSizes : Type 0
HeaderSizes = (structures : List Row) (type : ℕ) → some_of (eqb (length (type_header structures type))) (2 ∷ 4 ∷ []) ≡ true

-- ---- document 02, P2: the wider names of other symbols

abbrev pub NameIsAnOtherName : Type 0
NameIsAnOtherName = (name : List ℕ) → is_name name ≡ true → is_other_name name ≡ true

-- what was valid with 1 to 40 bytes for every name is valid
abbrev pub WhatWasValidIsValid : Type 0
WhatWasValidIsValid =
    (t : Tables) (memory : ℕ)
    → (encoded t
    & t1 t memory
    & (every (λ r. is_name (structure_name t.names r)) t.structures
    & every (λ r. is_name (member_name t.names r)) t.members
    & every (λ r. is_name (program_name t.names r)) t.programs
    & every (λ r. is_name (tag_name t.tag_names r)) t.tags
    & every (λ r. is_name (other_name t.names r)) t.others
    & pairs (tag_names_differ t.tag_names) t.tags
    & every (λ r. every (other_names_differ t.tag_names t.names r) t.others) t.tags
    & pairs (program_names_differ t.names) t.programs)
    & t3 t
    & t4 t
    & t5 t
    & t6 t memory) ≡ true
    → valid t memory ≡ true

abbrev pub OtherNameHasAtMost48Bytes : Type 0
OtherNameHasAtMost48Bytes = (name : List ℕ) → is_other_name name ≡ true → length name ≤ 48

-- ---- document 02, P3: one read

-- no reply changed: by fields and one read a request is answered as it was in one step
abbrev pub RepliesAsBefore : Type 0
RepliesAsBefore =
    (structures : List Row) (memory : List ℕ) (service : ℕ) (g : Target) (body : List ℕ) (limit : ℕ)
    → read_reply structures memory service g body limit
    ≡ pick (ltb (length body) (pick (eqb service 0x52) 6 2)) (fail service too_short)
    (send service (ask structures g (u16_at body 0)) memory (pick (eqb service 0x52) (u32_at body 2) 0) limit)

-- the service decides nothing behind the reply's first byte
abbrev pub OneRead : Type 0
OneRead =
    (structures : List Row) (memory : List ℕ) (one other : ℕ) (g : Target) (elements offset limit : ℕ)
    → drop 1 (read_at structures memory one g elements offset limit) ≡ drop 1 (read_at structures memory other g elements offset limit)

-- two messages, a and b, that are reads of one tag path with the same fields, plain or fragmented, are answered alike behind that byte
abbrev pub ReadsAlike : Type 0
ReadsAlike =
    (t : Tables) (f : Flags) (memory a b : List ℕ) (limit : ℕ) (path : List Segment) (service-a service-b : ℕ) (body-a body-b : List ℕ)
    → is_tag_path path ≡ true → is_read service-a ≡ true → is_read service-b ≡ true
    → request_of a ≡ request service-a path body-a → request_of b ≡ request service-b path body-b
    → read_fields service-a body-a ≡ read_fields service-b body-b
    → drop 1 (answer t f memory a limit).reply ≡ drop 1 (answer t f memory b limit).reply

-- once past the entry, a read of a tag path at offset 0, plain or fragmented, has status 0x00 or 0x06 exactly where path and element count are granted
abbrev pub OpeningNotRefused : Type 0
OpeningNotRefused =
    (t : Tables) (f : Flags) (memory message : List ℕ) (limit : ℕ) (buffer r : List ℕ) (service : ℕ) (path : List Segment) (body : List ℕ) (elements : ℕ)
    → is_tag_path path ≡ true → is_read service ≡ true
    → request_of message ≡ request service path body → read_fields service body ≡ fields elements 0
    → (entry t f memory message limit buffer).outcome ≡ replied r
    → ((get_or r 2 0 ≡ 0x00) ⊎ (get_or r 2 0 ≡ 0x06)) ↔ Grants t f path elements

-- ---- document 02, P13: masked writes in a row

-- of bytes, at any width: masked twice is masked once, by joined masks
abbrev pub MaskedAgain : Type 0
MaskedAgain = (bytes : List ℕ) (first next : Masks) → masked_by (masked_by bytes first) next ≡ masked_by bytes (join first next)

-- zeros with all ones leave bytes as they were
abbrev pub MaskedByNoChange : Type 0
MaskedByNoChange = (bytes : List ℕ) → every is_byte bytes ≡ true → masked_by bytes (no_change (length bytes)) ≡ bytes

-- which two of three are joined first makes no difference
abbrev pub JoinAssociates : Type 0
JoinAssociates = (first second third : Masks) → join (join first second) third ≡ join first (join second third)

-- joined with zeros and all ones, before or behind, a pair stays as it is
abbrev pub JoinNoChange : Type 0
JoinNoChange =
    (size : ℕ) (m : Masks) → length m.ors ≡ size → length m.ands ≡ size → every is_byte m.ors ≡ true → every is_byte m.ands ≡ true
    → (join (no_change size) m ≡ m) × (join m (no_change size) ≡ m)

-- a masked write in any bytes: what the definition decodes as a 0x4E of these segments with these masks
pub record Masking (path : List Segment) (m : Masks) (message : List ℕ) : Type 0 where
  pub body : List ℕ
  pub is : request_of message ≡ request 0x4E path body
  pub masks_are : masks_in body ≡ Some m

-- a path whose target, which a write may change, starts at this byte of tag memory
pub record Targets (t : Tables) (f : Flags) (path : List Segment) (start : ℕ) : Type 0 where
  pub target : Target
  pub permitted_is : tag_target t f true path ≡ found target
  pub start_is : target.start ≡ start

-- a tag path of which this holds, and whose target takes masks of a size
pub record TakesMasks (t : Tables) (f : Flags) (path : List Segment) (start size : ℕ) : Type 0 where
  pub tag_path : is_tag_path path ≡ true
  pub targets : Targets t f path start
  pub takes : takes_mask targets.target size ≡ true

-- nothing but broken tables keeps a message with this limit and this buffer from a reply: items 1 to 3
pub record Sendable (message : List ℕ) (limit : ℕ) (buffer : List ℕ) : Type 0 where
  pub request_fits : length message ≤ 65535
  pub limit_fits : limit ≤ 65535
  pub has_room : room limit ≤ length buffer

-- a message that is accepted: answered with status 0; the memory that it leaves
pub record Accepts (t : Tables) (f : Flags) (memory message : List ℕ) (limit : ℕ) (buffer left : List ℕ) : Type 0 where
  pub bytes : List ℕ
  pub replied_is : (entry t f memory message limit buffer).outcome ≡ replied bytes
  pub success_is : get_or bytes 2 0 ≡ 0x00
  pub left_is : (entry t f memory message limit buffer).memory ≡ left

-- what an accepted 0x4E is, and what it leaves
pub record MaskedWrite (t : Tables) (f : Flags) (memory message left : List ℕ) : Type 0 where
  pub path : List Segment
  pub masks : Masks
  pub start : ℕ
  pub masking : Masking path masks message
  pub takes_masks : TakesMasks t f path start (length masks.ors)
  pub stored : left ≡ put memory start (masked_by (part memory start (length masks.ors)) masks)

abbrev pub AcceptedMasks : Type 0
AcceptedMasks =
    (t : Tables) (f : Flags) (memory message : List ℕ) (limit : ℕ) (buffer left : List ℕ)
    → get_or message 0 0 ≡ 0x4E → Accepts t f memory message limit buffer left → MaskedWrite t f memory message left

-- its reply is CE 00 00 00
abbrev pub AcceptedReply : Type 0
AcceptedReply =
    (t : Tables) (f : Flags) (memory message : List ℕ) (limit : ℕ) (buffer left : List ℕ)
    → get_or message 0 0 ≡ 0x4E → Accepts t f memory message limit buffer left
    → (entry t f memory message limit buffer).outcome ≡ replied (0xCE ∷ 0x00 ∷ 0x00 ∷ 0x00 ∷ [])

-- and every such message is accepted
abbrev pub MasksAccepted : Type 0
MasksAccepted =
    (t : Tables) (f : Flags) (memory message : List ℕ) (limit : ℕ) (buffer left : List ℕ)
    → valid t (length memory) ≡ true → Sendable message limit buffer → MaskedWrite t f memory message left
    → Accepts t f memory message limit buffer left

-- an accepted masked write of these masks to a target that starts at this byte, in any bytes, by any path, at any limit
pub record Click (t : Tables) (f : Flags) (start : ℕ) (memory : List ℕ) (m : Masks) (left : List ℕ) : Type 0 where
  pub path : List Segment
  pub message : List ℕ
  pub limit : ℕ
  pub buffer : List ℕ
  pub masking : Masking path m message
  pub targets : Targets t f path start
  pub accepted : Accepts t f memory message limit buffer left

-- two in a row to one target leave what one with joined masks leaves, sent to any path of that target; it is accepted
abbrev pub MasksJoin : Type 0
MasksJoin =
    (t : Tables) (f : Flags) (start : ℕ) (memory between left : List ℕ) (first next : Masks)
    → Click t f start memory first between → Click t f start between next left → length first.ors ≡ length next.ors
    → (path : List Segment) (message : List ℕ) (limit : ℕ) (buffer : List ℕ)
    → TakesMasks t f path start (length first.ors) → Masking path (join first next) message → Sendable message limit buffer
    → Accepts t f memory message limit buffer left

-- the first one's path and the second one's are such paths
abbrev pub MasksJoinThere : Type 0
MasksJoinThere =
    (t : Tables) (f : Flags) (start : ℕ) (memory between left : List ℕ) (first next : Masks)
    → (one : Click t f start memory first between) (two : Click t f start between next left) → length first.ors ≡ length next.ors
    → (path : List Segment) (message : List ℕ) (limit : ℕ) (buffer : List ℕ)
    → (path ≡ one.path) ⊎ (path ≡ two.path) → Masking path (join first next) message → Sendable message limit buffer
    → Accepts t f memory message limit buffer left

-- a row of them, one behind the other
pub data Clicks (t : Tables) (f : Flags) (start size : ℕ) : List ℕ → List Masks → List ℕ → Type 0 where
  no_more : {memory : List ℕ} → Clicks t f start size memory [] memory
  one_more : {memory between left : List ℕ} {m : Masks} {rest : List Masks}
      → Click t f start memory m between → length m.ors ≡ size → Clicks t f start size between rest left
      → Clicks t f start size memory (m ∷ rest) left

-- however many: one masked write does for all
abbrev pub AllMasksJoin : Type 0
AllMasksJoin =
    (t : Tables) (f : Flags) (start size : ℕ) (memory left : List ℕ) (first : Masks) (rest : List Masks)
    → Clicks t f start size memory (first ∷ rest) left
    → (path : List Segment) (message : List ℕ) (limit : ℕ) (buffer : List ℕ)
    → TakesMasks t f path start size → Masking path (join_row first rest) message → Sendable message limit buffer
    → Accepts t f memory message limit buffer left

-- zeros with all ones are accepted and leave tag memory as it was, where this holds bytes
abbrev pub NoChangeAccepted : Type 0
NoChangeAccepted =
    (t : Tables) (f : Flags) (memory message : List ℕ) (limit : ℕ) (buffer : List ℕ) (path : List Segment) (start size : ℕ)
    → valid t (length memory) ≡ true → every is_byte memory ≡ true
    → TakesMasks t f path start size → Masking path (no_change size) message → Sendable message limit buffer
    → Accepts t f memory message limit buffer memory

-- two parts of an envelope in a row, too
abbrev pub PartsJoin : Type 0
PartsJoin =
    (t : Tables) (f : Flags) (start : ℕ) (memory a b c : List ℕ) (limit-a limit-b limit-c : ℕ) (path-a path-b path-c : List Segment) (first next : Masks)
    → valid t (length memory) ≡ true → length first.ors ≡ length next.ors
    → Masking path-a first a → Targets t f path-a start → Masking path-b next b → Targets t f path-b start
    → Masking path-c (join first next) c → TakesMasks t f path-c start (length first.ors)
    → let one = part_answer (part_dispatch t f) memory a limit-a in
    let two = part_answer (part_dispatch t f) one.memory b limit-b in
    let single = part_answer (part_dispatch t f) memory c limit-c in
    get_or one.reply 2 0 ≡ 0x00 → get_or two.reply 2 0 ≡ 0x00 → (get_or single.reply 2 0 ≡ 0x00) × (single.memory ≡ two.memory)
