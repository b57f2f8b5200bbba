-- The theorems that specs/Promises.antt states, but for `NotRefused` and `OpeningNotRefused` (Granted), `TargetLiesInItsTag` (Inside),
-- `MemoryKeepsItsLength` (Stored), and those of document 02's names (OtherNames) and reads (OneRead).
-- Assumes nothing.
use mathlib.Core.Path.{◌≡◌, refl, sym, ap, ◌∙◌, subst}
use mathlib.Core.Logic.{◌≢◌}
use mathlib.Core.Bool.{Bool, true, false}
use mathlib.Core.List.{List, [], ◌∷◌}
use Rattle.std.specs.Prelude.{Option, None, Some}
use Prim.Native.Nat.{ℕ, zero, suc, ◌+◌, ◌-◌, ◌*◌, ◌≤◌, ◌<◌}
use lib.Bits.{bit_and, bit_or}
use native.Mathlib.Omega.{arith}
use lib.Dec.{ltb, leb, eqb}
use lib.ListN.{length, get_or, drop}
use borrow.Author.Tests.{ltb-false, leb-true, eqb-true, ne_eqb}
use Rattle.laws.specs.Tests.{every, some_of}
use Rattle.laws.proofs.Chain.{by_test, pick_all}
use Rattle.laws.proofs.Tests.{every_at}
use Rattle.definition.specs.Bytes.{part}
use Rattle.definition.specs.Reply.{Answer, reply}
use Rattle.definition.specs.Segment.{Segment, segments}
use Rattle.definition.specs.Request.{Request, malformed, request, request_of, with_path}
use Rattle.definition.specs.Tables.{Tables, Flags}
use Rattle.definition.specs.Valid.{valid}
use Rattle.definition.specs.Types.{atomic_size, is_structure, type_header}
use Rattle.definition.specs.Masked.{masked, masked_stored}
use Rattle.definition.specs.Resolve.{Resolved, found, turned}
use Rattle.definition.specs.Access.{tag_target}
use Rattle.definition.specs.Write.{Stored, store, no_store, store_answer, write_stored}
use Rattle.definition.specs.Envelope.{part_answer}
use Rattle.definition.specs.Answer.{is_write, is_read, on_target, tag_service, part_dispatch, answer}
use Rattle.definition.specs.Entry.{Entered, replied, refuse, entry}
use Rattle.definition.specs.Promises.{RefusalChangesNothing, ReplyFits, ReplyHasAStatus, RefusedWriteChangesNothing, PartIsAnswer, MaskedAtAnyWidth, ElementSizes, HeaderSizes}
use Rattle.definition.proofs.Enters.{Ways, stopped, taken, enters}
use Rattle.definition.proofs.Replies.{Proper, plain-all, proper_answer}

-- a refusal is no reply
pub no_reply : {A : Type 0} (e : Entered) (number : ℕ) (buffer memory r : List ℕ) → e ≡ refuse number buffer memory → e.outcome ≡ replied r → A
no_reply e number buffer memory r p q = absurd (let z : ◌≡◌ {A = ℕ} 0 1 = cc (ap (λ (x : Entered). x.outcome) p) in omega arith)

pub refusal_changes_nothing : RefusalChangesNothing
refusal_changes_nothing t f memory message limit buffer number e = go (enters t f memory message limit buffer)
  where
    go : Ways t f memory message limit buffer
        → (0 < number) × (number ≤ 4) × ((entry t f memory message limit buffer).buffer ≡ buffer) × ((entry t f memory message limit buffer).memory ≡ memory)
    go (stopped k low high p) =
        let same : k ≡ number = cc (ap (λ (x : Entered). x.outcome) p) in
        (omega arith, omega arith, ap (λ (x : Entered). x.buffer) p, ap (λ (x : Entered). x.memory) p)
    go (taken a b c d p) = absurd (let z : ◌≡◌ {A = ℕ} 0 1 = cc (ap (λ (x : Entered). x.outcome) p) in omega arith)

-- what holds of the dispatcher's reply where the tables are valid holds of the reply
pub past_entry : (P : List ℕ → Type 0) (t : Tables) (f : Flags) (memory message : List ℕ) (limit : ℕ) (buffer r : List ℕ)
    → (entry t f memory message limit buffer).outcome ≡ replied r → (valid t (length memory) ≡ true → P (answer t f memory message limit).reply) → P r
past_entry P t f memory message limit buffer r e p = go (enters t f memory message limit buffer)
  where
    go : Ways t f memory message limit buffer → P r
    go (stopped k low high q) = no_reply _ k buffer memory r q e
    go (taken a b c d q) =
        let same : (answer t f memory message limit).reply ≡ r = cc (ap (λ (x : Entered). x.outcome) q) in
        subst P same (p d)

-- what is replied is proper
proper : (t : Tables) (f : Flags) (memory message : List ℕ) (limit : ℕ) (buffer r : List ℕ)
    → (entry t f memory message limit buffer).outcome ≡ replied r → Proper limit r
proper t f memory message limit buffer r e =
    past_entry (Proper limit) t f memory message limit buffer r e (λ ok. proper_answer t f memory message limit)

pub reply-fits : ReplyFits
reply-fits t f memory message limit buffer r e = (proper t f memory message limit buffer r e).fits

pub reply_has_a_status : ReplyHasAStatus
reply_has_a_status t f memory message limit buffer r e =
    let h = (proper t f memory message limit buffer r e).headed in (h.long, h.status)

-- ---- a refused write

-- an answer with status 0, or with the memory as it was
abbrev Honest : List ℕ → Answer → Type 0
Honest memory a = get_or a.reply 2 0 ≢ 0x00 → a.memory ≡ memory

store_honest : (service : ℕ) (s : Stored) (memory : List ℕ) → Honest memory (store_answer service s memory)
unfolding reply
store_honest service (store at bytes) memory n = absurd (n refl)
store_honest service (no_store status) memory n = refl

target_honest : (t : Tables) (memory : List ℕ) (service : ℕ) (r : Resolved) (body : List ℕ) (limit : ℕ)
    → Honest memory (on_target t memory service r body limit)
target_honest t memory service (turned status) body limit = λ n. refl
target_honest t memory service (found g) body limit =
    pick_all (Honest memory) (is_read service) (λ n. refl)
    (pick_all (Honest memory) (eqb service 0x4E) (store_honest service (masked_stored memory g body) memory)
    (store_honest service (write_stored t.structures memory service g body) memory))

-- a write is no envelope
write_alone : (service : ℕ) → is_write service ≡ true → eqb service 0x0A ≡ false
write_alone service w =
    by_test (eqb service 0x0A)
    (λ e. absurd (let z : false ≡ true = subst (λ (k : ℕ). is_write k ≡ true) (eqb-true service 0x0A e) w in let y : ◌≡◌ {A = ℕ} 0 1 = cc z in omega arith))
    (λ e. e)

alone_honest : (t : Tables) (f : Flags) (memory message : List ℕ) (limit service : ℕ) (path : List Segment) (body : List ℕ)
    → request_of message ≡ request service path body → is_write service ≡ true → Honest memory (answer t f memory message limit)
unfolding answer tag_service
alone_honest t f memory message limit service path body q w =
    rw (q, write_alone service w)
    (plain-all (Honest memory) t f memory service path body limit (λ r p n. refl)
    (target_honest t memory service (tag_target t f (is_write service) path) body limit))

-- a message that decodes has its first byte as its service
abbrev pub Parsed : List ℕ → Request → Type 0
Parsed message malformed = Unit {0}
Parsed message (request service path body) = service ≡ get_or message 0 0

with_path_lem : (message : List ℕ) (o : Option (List Segment)) (body : List ℕ) → Parsed message (with_path (get_or message 0 0) o body)
with_path_lem message None body = tt
with_path_lem message (Some p) body = refl

pub parsed : (message : List ℕ) → Parsed message (request_of message)
unfolding request_of
parsed message =
    pick_all (Parsed message) (ltb (length message) (2 + 2 * get_or message 1 0)) tt
    (with_path_lem message (segments (part message 2 (2 * get_or message 1 0))) (drop (2 + 2 * get_or message 1 0) message))

write_honest : (t : Tables) (f : Flags) (memory message : List ℕ) (limit : ℕ) → is_write (get_or message 0 0) ≡ true
    → Honest memory (answer t f memory message limit)
unfolding answer
write_honest t f memory message limit w = go (request_of message) refl (parsed message)
  where
    go : (r : Request) → request_of message ≡ r → Parsed message r → Honest memory (answer t f memory message limit)
    go malformed q p = rw q (λ n. refl)
    go (request service path body) q p = alone_honest t f memory message limit service path body q (rw p w)

pub refused_write_changes_nothing : RefusedWriteChangesNothing
refused_write_changes_nothing t f memory message limit buffer r w e n = go (enters t f memory message limit buffer)
  where
    go : Ways t f memory message limit buffer → (entry t f memory message limit buffer).memory ≡ memory
    go (stopped k low high p) = ap (λ (x : Entered). x.memory) p
    go (taken a b c d p) =
        let same : (answer t f memory message limit).reply ≡ r = cc (ap (λ (x : Entered). x.outcome) p) in
        ap (λ (x : Entered). x.memory) p
        ∙ write_honest t f memory message limit w (subst (λ (l : List ℕ). get_or l 2 0 ≢ 0) (sym same) n)

-- the dispatcher of parts is the dispatcher without envelopes, and only 0x0A opens one
pub part_is_answer : PartIsAnswer
unfolding answer part_dispatch part_answer
part_is_answer t f memory message limit n = go (request_of message) refl (parsed message)
  where
    go : (r : Request) → request_of message ≡ r → Parsed message r → part_answer (part_dispatch t f) memory message limit ≡ answer t f memory message limit
    go malformed q p = rw (q, ne_eqb (get_or message 0 0) 0x0A n) refl
    go (request service path body) q p = rw (q, p, ne_eqb (get_or message 0 0) 0x0A n) refl

-- ---- once for all widths

pub masked_at_any_width : MaskedAtAnyWidth
unfolding masked
masked_at_any_width [] ors ands p q = (refl, λ i h. absurd (omega arith))
masked_at_any_width (b ∷ bs) [] ands p q = absurd (omega arith)
masked_at_any_width (b ∷ bs) (o ∷ os) [] p q = absurd (omega arith)
masked_at_any_width (b ∷ bs) (o ∷ os) (n ∷ ns) p q =
    let rest = masked_at_any_width bs os ns (omega arith) (omega arith) in (
      ap suc rest.0,
      λ i. elim i as (λ k. k < length (b ∷ bs)
          → get_or (masked (b ∷ bs) (o ∷ os) (n ∷ ns)) k 0 ≡ bit_and (bit_or (get_or (b ∷ bs) k 0) (get_or (o ∷ os) k 0)) (get_or (n ∷ ns) k 0))
          [ zero ↦ λ h. refl | suc j ↦ λ h. rest.1 j (omega arith) ],
    )

-- the sizes stand in two short lists, each tried whole
pub element_sizes : ElementSizes
unfolding atomic_size some_of every
element_sizes code a =
    by_test (ltb code 0xC1) (λ p. absurd (none_atomic (rw p at a)))
    (λ p. by_test (leb code 0xCB)
    (λ q. rw (p, q) (every_at Width 0 (1 ∷ 1 ∷ 2 ∷ 4 ∷ 8 ∷ 1 ∷ 2 ∷ 4 ∷ 8 ∷ 4 ∷ 8 ∷ []) (code - 0xC1) refl
    (omega (arith, ltb-false code 0xC1 p, leb-true code 0xCB q))))
    (λ q. by_test (ltb code 0xD1) (λ r. absurd (none_atomic (rw (p, q, r) at a)))
    (λ r. by_test (leb code 0xD4)
    (λ u. rw (p, q, r, u) (every_at Width 0 (1 ∷ 2 ∷ 4 ∷ 8 ∷ []) (code - 0xD1) refl (omega (arith, ltb-false code 0xD1 r, leb-true code 0xD4 u))))
    (λ u. absurd (none_atomic (rw (p, q, r, u) at a))))))
  where
    Width : ℕ → Bool
    Width n = some_of (eqb n) (1 ∷ 2 ∷ 4 ∷ 8 ∷ [])

    none_atomic : false ≡ true → ⊥
    none_atomic e = let z : ◌≡◌ {A = ℕ} 0 1 = cc e in omega arith

pub header_sizes : HeaderSizes
unfolding type_header some_of
header_sizes structures type = by_test (is_structure type) (λ e. rw e) (λ e. rw e)
