-- A write stores inside tag memory, so no message changes its length.
-- Assumes nothing.
use mathlib.Core.Path.{◌≡◌, refl, ◌∙◌}
use mathlib.Core.Bool.{true}
use mathlib.Core.List.{List, [], ◌∷◌}
use Rattle.std.specs.Prelude.{Option, None, Some}
use Prim.Native.Nat.{ℕ, ◌+◌, ◌*◌, ◌≤◌}
use native.Mathlib.Nat.{mul-pos, mul-le-mul_right}
use native.Mathlib.Omega.{arith}
use lib.Dec.{ltb, leb, eqb}
use lib.ListN.{length, get_or, drop, length-take, length-drop}
use borrow.Author.Tests.{ltb-false}
use Rattle.laws.specs.Pick.{both}
use Rattle.laws.proofs.Chain.{pick_all}
use Rattle.laws.proofs.Put.{length-put}
use Rattle.laws.proofs.Tests.{pick_by}
use Rattle.definition.specs.Bytes.{u16_at, part}
use Rattle.definition.specs.Reply.{Answer, room}
use Rattle.definition.specs.Segment.{Segment}
use Rattle.definition.specs.Request.{Request, malformed, request, request_of, object_of}
use Rattle.definition.specs.Tables.{Tables, Flags, takes_envelopes, no_bit}
use Rattle.definition.specs.Types.{BOOL, element_size}
use Rattle.definition.specs.Valid.{valid}
use Rattle.definition.specs.Resolve.{Target, Resolved, found, turned}
use Rattle.definition.specs.Access.{tag_target}
use Rattle.definition.specs.Write.{Stored, store, no_store, store_answer, Fields, fields_size, fields_of, write_bit, type_matches, write_part, write_value, write_stored}
use Rattle.definition.specs.Masked.{masked, takes_mask, masked_stored}
use Rattle.definition.specs.Envelope.{Replies, Dispatcher, part_answer, run_parts, envelope_reply, close_envelope, answer_parts, parts_of, envelope, envelope_service}
use Rattle.definition.specs.Answer.{is_read, is_write, on_target, tag_service, plain, plain_request, part_dispatch, is_router, any_request, answer}
use Rattle.definition.specs.Entry.{Entered, entry}
use Rattle.definition.specs.Promises.{Lies, MemoryKeepsItsLength}
use Rattle.definition.proofs.Replies.{plain-all}
use Rattle.definition.proofs.Inside.{OnFound, target_lies}

-- what is stored stands in a tag memory of this length
abbrev pub InMemory : ℕ → Stored → Type 0
InMemory n (store at bytes) = at + length bytes ≤ n
InMemory n (no_store status) = Unit {0}

-- ---- writes

part_in_memory : (n service : ℕ) (g : Target) (w : Fields) (total : ℕ) → g.start + total ≤ n → InMemory n (write_part service g w total)
unfolding write_part
part_in_memory n service g w total h =
    pick_all (InMemory n) (eqb service 0x53)
    (pick_all (InMemory n) (leb total w.offset) tt
    (pick_by (InMemory n) (ltb total (w.offset + length w.value)) (λ e. tt)
    (λ e. omega (arith, ltb-false total (w.offset + length w.value) e))))
    (pick_all (InMemory n) (ltb (length w.value) total) tt
    (pick_by (InMemory n) (ltb total (length w.value)) (λ e. tt) (λ e. omega (arith, ltb-false total (length w.value) e))))

module _ (t : Tables) (n : ℕ) (g : Target) (l : Lies t n g) where
  value_in_memory : (service : ℕ) (w : Fields) → InMemory n (write_value t.structures service g w)
  unfolding write_value
  value_in_memory service w =
      pick_all (InMemory n) (type_matches t.structures g w)
      (pick_all (InMemory n) (eqb w.elements 0) tt
      (pick_by (InMemory n) (ltb g.count w.elements) (λ e. tt)
      (λ e. part_in_memory n service g w (w.elements * element_size t g.type)
      (omega (arith, mul-le-mul_right (element_size t g.type) (ltb-false g.count w.elements e))))))
      tt

  bit_in_memory : (memory : List ℕ) (w : Fields) → InMemory n (write_bit memory g w)
  unfolding write_bit
  bit_in_memory memory w =
      pick_all (InMemory n) (eqb w.type BOOL)
      (pick_all (InMemory n) (eqb w.elements 1)
      (pick_all (InMemory n) (ltb (length w.value) 1) tt
      (pick_all (InMemory n) (ltb 1 (length w.value)) tt
      (omega (arith, mul-pos l.some_elements l.some_bytes))))
      tt)
      tt

  pub stored_in_memory : (memory : List ℕ) (service : ℕ) (body : List ℕ) → InMemory n (write_stored t.structures memory service g body)
  unfolding write_stored
  stored_in_memory memory service body =
      pick_all (InMemory n) (ltb (length body) (fields_size service body)) tt
      (pick_all (InMemory n) (eqb g.bit no_bit) (value_in_memory service (fields_of service body)) (bit_in_memory memory (fields_of service body)))

-- ---- masked writes

masked-length : (bytes ors ands : List ℕ) → length (masked bytes ors ands) ≤ length bytes
unfolding masked
masked-length [] os ns = omega arith
masked-length (b ∷ bs) [] ns = omega arith
masked-length (b ∷ bs) (o ∷ os) [] = omega arith
masked-length (b ∷ bs) (o ∷ os) (n ∷ ns) = omega (arith, masked-length bs os ns)

pub masked_in_memory : (t : Tables) (memory : List ℕ) (g : Target) (body : List ℕ) → Lies t (length memory) g
    → InMemory (length memory) (masked_stored memory g body)
unfolding masked_stored
masked_in_memory t memory g body l =
    let n = length memory in
    let size = u16_at body 0 in
    pick_all (InMemory n) (ltb (length body) (2 + 2 * size)) tt
    (pick_all (InMemory n) (ltb (2 + 2 * size) (length body)) tt
    (pick_all (InMemory n) (takes_mask g size)
    (omega (
      arith,
      masked-length (part memory g.start size) (part body 2 size) (part body (2 + size) size),
      length-take size (drop g.start memory),
      length-drop g.start memory,
    ))
    tt))

-- ---- a request that is no envelope

abbrev Keeps : ℕ → Answer → Type 0
Keeps n a = length a.memory ≡ n

store_keeps : (service : ℕ) (memory : List ℕ) (s : Stored) → InMemory (length memory) s → Keeps (length memory) (store_answer service s memory)
store_keeps service memory (store at bytes) h = length-put memory at bytes h
store_keeps service memory (no_store status) h = refl

module _ (t : Tables) (f : Flags) (memory : List ℕ) (ok : valid t (length memory) ≡ true) where
  abbrev Same : Answer → Type 0
  Same = Keeps (length memory)

  target_keeps : (service : ℕ) (r : Resolved) (body : List ℕ) (limit : ℕ) → OnFound (Lies t (length memory)) r → Same (on_target t memory service r body limit)
  target_keeps service (turned status) body limit l = refl
  target_keeps service (found g) body limit l =
      pick_all Same (is_read service) refl
      (pick_all Same (eqb service 0x4E) (store_keeps service memory (masked_stored memory g body) (masked_in_memory t memory g body l))
      (store_keeps service memory (write_stored t.structures memory service g body) (stored_in_memory t (length memory) g l memory service body)))

  plain_keeps : (service : ℕ) (path : List Segment) (body : List ℕ) (limit : ℕ) → Same (plain t f memory service path body limit)
  unfolding tag_service
  plain_keeps service path body limit =
      plain-all Same t f memory service path body limit (λ r p. refl)
      (target_keeps service (tag_target t f (is_write service) path) body limit (target_lies t f (length memory) ok (is_write service) path))

  request_keeps : (message : List ℕ) (r : Request) (limit : ℕ) → Same (plain_request t f memory message r limit)
  request_keeps message malformed limit = refl
  request_keeps message (request service path body) limit = plain_keeps service path body limit

  pub dispatch_keeps : (message : List ℕ) (limit : ℕ) → length (part_dispatch t f memory message limit).memory ≡ length memory
  unfolding part_dispatch
  dispatch_keeps message limit = request_keeps message (request_of message) limit

-- ---- an envelope, whose dispatcher keeps the length

close_keeps : (n limit : ℕ) (rs : Replies) → length rs.memory ≡ n → Keeps n (close_envelope limit rs)
unfolding close_envelope
close_keeps n limit rs e = pick_all (Keeps n) (leb (length (envelope_reply rs.replies)) limit) e e

module _ (dispatch : Dispatcher) (n : ℕ)
    (keeps : (memory message : List ℕ) (limit : ℕ) → length memory ≡ n → length (dispatch memory message limit).memory ≡ n) where
  run_keeps : (limit : ℕ) (parts : List (List ℕ)) (used : ℕ) (memory : List ℕ) → length memory ≡ n
      → length (run_parts dispatch limit used parts memory).memory ≡ n
  unfolding run_parts part_answer
  run_keeps limit [] used memory e = e
  run_keeps limit (p ∷ rest) used memory e =
      run_keeps limit rest _ _ (pick_all (Keeps n) (eqb (get_or p 0 0) envelope_service) e (keeps memory p _ e))

  parts_keep : (memory : List ℕ) (parts : Option (List (List ℕ))) (limit : ℕ) → length memory ≡ n → Keeps n (answer_parts dispatch memory parts limit)
  parts_keep memory None limit e = e
  parts_keep memory (Some parts) limit e = close_keeps n limit _ (run_keeps limit parts (6 + 2 * length parts) memory e)

  pub envelope_keeps : (f : Flags) (memory body : List ℕ) (limit : ℕ) → length memory ≡ n → length (envelope f dispatch memory body limit).memory ≡ n
  unfolding envelope
  envelope_keeps f memory body limit e = pick_all (Keeps n) (takes_envelopes f) (parts_keep memory (parts_of body) limit e) e

-- ---- a message

module _ (t : Tables) (f : Flags) (memory : List ℕ) (ok : valid t (length memory) ≡ true) where
  any_keeps : (message : List ℕ) (r : Request) (limit : ℕ) → Keeps (length memory) (any_request t f memory message r limit)
  any_keeps message malformed limit = refl
  any_keeps message (request service path body) limit =
      pick_all (Keeps (length memory)) (both (eqb service envelope_service) (is_router (object_of path)))
      (envelope_keeps (part_dispatch t f) (length memory) (λ m p k e. dispatch_keeps t f m (rw e ok) p k ∙ e) f memory body limit refl)
      (plain_keeps t f memory ok service path body limit)

  pub answer_keeps : (message : List ℕ) (limit : ℕ) → length (answer t f memory message limit).memory ≡ length memory
  unfolding answer
  answer_keeps message limit = any_keeps message (request_of message) limit

pub memory_keeps_its_length : MemoryKeepsItsLength
unfolding entry
memory_keeps_its_length t f memory message limit buffer =
    let Same : Entered → Type 0 = λ e. length e.memory ≡ length memory in
    pick_all Same (ltb 65535 (length message)) refl
    (pick_all Same (ltb 65535 limit) refl
    (pick_all Same (ltb (length buffer) (room limit)) refl
    (pick_by Same (valid t (length memory)) (λ ok. answer_keeps t f memory ok message limit) (λ e. refl))))
