-- Document 02, P13: two masks in a row are one at every byte, so they are over lists, in tag memory, of a message and of its entry. An accepted masked write
-- is a store of the masked bytes at its target's start, and whether it is accepted depends on no byte of tag memory.
-- Assumes nothing.
use mathlib.Core.Path.{◌≡◌, refl, sym, ap, ap₂, ◌∙◌, subst}
use mathlib.Core.Logic.{◌⊎◌, inl, inr}
use mathlib.Core.Bool.{true, false}
use mathlib.Core.List.{List, [], ◌∷◌}
use Rattle.std.specs.Prelude.{Some}
use Prim.Native.Nat.{ℕ, zero, suc, ◌+◌, ◌*◌, ◌≤◌, ◌<◌}
use native.Mathlib.Nat.{mul-le-mul_right}
use native.Mathlib.Omega.{arith}
use lib.Bits.{bit_or, or_zero_l, or_zero_r}
use lib.Dec.{ltb, eqb}
use lib.ListN.{length, get_or, replicate, length-replicate}
use borrow.Author.Tests.{ltb-true, ltb-false, eqb-true, eq-eqb, le-ltb}
use Rattle.laws.specs.Put.{put}
use Rattle.laws.specs.Tests.{every}
use Rattle.laws.proofs.Bits.{or_assoc, mask_again, mask_nothing, ones_masked}
use Rattle.laws.proofs.Chain.{by_test, clash}
use Rattle.laws.proofs.Put.{length_part, put_again, part_put, put_part}
use Rattle.laws.proofs.Tests.{both_true, every_part}
use Rattle.definition.specs.Bytes.{u16_at, part}
use Rattle.definition.specs.Reply.{Answer, answered, success, reply, fail, room}
use Rattle.definition.specs.Segment.{Segment}
use Rattle.definition.specs.Request.{Request, malformed, request, request_of, object_of, is_tag_path}
use Rattle.definition.specs.Tables.{Tables, Flags, no_bit}
use Rattle.definition.specs.Types.{atomic_size, has_bits, element_size}
use Rattle.definition.specs.Valid.{valid}
use Rattle.definition.specs.Resolve.{Target, Resolved, found, turned}
use Rattle.definition.specs.Access.{tag_target}
use Rattle.definition.specs.Masked.{masked, takes_mask, masked_stored}
use Rattle.definition.specs.Envelope.{part_answer}
use Rattle.definition.specs.Answer.{on_target, tag_service, by_service, plain, part_dispatch, answer}
use Rattle.definition.specs.Entry.{Entered, replied, lay, entry}
use Rattle.definition.specs.Joined.{Masks, pair, masked_by, join_ors, join, join_row, no_change, is_byte, masks_in}
use Rattle.definition.specs.Promises.{MaskedAgain, MaskedByNoChange, Masking, Targets, TakesMasks, Sendable, Accepts, MaskedWrite, Click, Clicks, no_more, one_more, AcceptedMasks, AcceptedReply, MasksAccepted, MasksJoin, MasksJoinThere, AllMasksJoin, JoinAssociates, JoinNoChange, NoChangeAccepted, PartsJoin}
use Rattle.definition.proofs.Enters.{Ways, stopped, taken, enters}
use Rattle.definition.proofs.Facts.{atomic_inside}
use Rattle.definition.proofs.Granted.{Away, fail_away, otherwise_away, done}
use Rattle.definition.proofs.OneRead.{past_objects}
use Rattle.definition.proofs.Inside.{target_lies_in_its_tag}
use Rattle.definition.proofs.Replies.{TurnsWell, target_well}
use Rattle.definition.proofs.Theorems.{no_reply, Parsed, parsed, part_is_answer, masked_at_any_width}

-- ---- lists, of any length

lists_again : (bytes o₁ a₁ o₂ a₂ : List ℕ) → masked (masked bytes o₁ a₁) o₂ a₂ ≡ masked bytes (join_ors o₁ o₂) (masked a₁ o₂ a₂)
unfolding masked join_ors
lists_again [] os ns ps bs = refl
lists_again (x ∷ xs) [] ns ps bs = refl
lists_again (x ∷ xs) (o ∷ os) [] [] bs = refl
lists_again (x ∷ xs) (o ∷ os) [] (p ∷ ps) bs = refl
lists_again (x ∷ xs) (o ∷ os) (a ∷ ns) [] bs = refl
lists_again (x ∷ xs) (o ∷ os) (a ∷ ns) (p ∷ ps) [] = refl
lists_again (x ∷ xs) (o ∷ os) (a ∷ ns) (p ∷ ps) (b ∷ bs) = ap₂ ◌∷◌ (mask_again x o a p b) (lists_again xs os ns ps bs)

pub masked_again : MaskedAgain
masked_again bytes first next = lists_again bytes first.ors first.ands next.ors next.ands

-- joined OR masks, byte by byte
pub ors_at_any_width : (ors next : List ℕ) → length next ≡ length ors
    → (length (join_ors ors next) ≡ length ors) × ((i : ℕ) → i < length ors → get_or (join_ors ors next) i 0 ≡ bit_or (get_or ors i 0) (get_or next i 0))
unfolding join_ors
ors_at_any_width [] next e = (refl, λ i h. absurd (omega arith))
ors_at_any_width (o ∷ os) [] e = absurd (omega arith)
ors_at_any_width (o ∷ os) (n ∷ ns) e =
    let rest = ors_at_any_width os ns (omega arith) in (
      ap suc rest.0,
      λ i. elim i as (λ k. k < length (o ∷ os) → get_or (join_ors (o ∷ os) (n ∷ ns)) k 0 ≡ bit_or (get_or (o ∷ os) k 0) (get_or (n ∷ ns) k 0))
          [ zero ↦ λ h. refl | suc j ↦ λ h. rest.1 j (omega arith) ],
    )

ors_again : (a b c : List ℕ) → join_ors (join_ors a b) c ≡ join_ors a (join_ors b c)
unfolding join_ors
ors_again [] bs cs = refl
ors_again (a ∷ ns) [] cs = refl
ors_again (a ∷ ns) (b ∷ bs) [] = refl
ors_again (a ∷ ns) (b ∷ bs) (c ∷ cs) = ap₂ ◌∷◌ (or_assoc a b c) (ors_again ns bs cs)

pub join_associates : JoinAssociates
join_associates a b c = ap₂ pair (ors_again a.ors b.ors c.ors) (masked_again a.ands b c)

-- ---- zeros with all ones

byte_first : (b : ℕ) (bs : List ℕ) → every is_byte (b ∷ bs) ≡ true → (ltb b 256 ≡ true) × (every is_byte bs ≡ true)
unfolding every
byte_first b bs e = both_true (is_byte b) (every is_byte bs) e

pub masked_by_no_change : MaskedByNoChange
unfolding masked
masked_by_no_change [] e = refl
masked_by_no_change (b ∷ bs) e =
    let h = byte_first b bs e in
    ap₂ ◌∷◌ (mask_nothing b (ltb-true b 256 h.0)) (masked_by_no_change bs h.1)

ors_behind_zeros : (ors : List ℕ) → join_ors (replicate (length ors) 0) ors ≡ ors
unfolding join_ors
ors_behind_zeros [] = refl
ors_behind_zeros (o ∷ os) = ap₂ ◌∷◌ (or_zero_l o) (ors_behind_zeros os)

ors_before_zeros : (ors : List ℕ) → join_ors ors (replicate (length ors) 0) ≡ ors
unfolding join_ors
ors_before_zeros [] = refl
ors_before_zeros (o ∷ os) = ap₂ ◌∷◌ (or_zero_r o) (ors_before_zeros os)

ones_behind : (ors ands : List ℕ) → length ors ≡ length ands → every is_byte ors ≡ true → every is_byte ands ≡ true
    → masked (replicate (length ands) 255) ors ands ≡ ands
unfolding masked
ones_behind os [] n e k = refl
ones_behind [] (a ∷ ns) n e k = absurd (omega arith)
ones_behind (o ∷ os) (a ∷ ns) n e k =
    let h = byte_first o os e in
    let l = byte_first a ns k in
    ap₂ ◌∷◌ (ones_masked o a (ltb-true o 256 h.0) (ltb-true a 256 l.0)) (ones_behind os ns (omega arith) h.1 l.1)

pub join_no_change : JoinNoChange
join_no_change size m p q o a = (
  ap₂ pair (rw (← p) (ors_behind_zeros m.ors)) (rw (← q) (ones_behind m.ors m.ands (p ∙ sym q) o a)),
  ap₂ pair (rw (← p) (ors_before_zeros m.ors)) (rw (← q) (masked_by_no_change m.ands a)),
)

-- ---- the masks of a body

-- a body that carries masks: its size, and both masks are of that size
record Carries (body : List ℕ) (m : Masks) : Type 0 where
  exact : length body ≡ 2 + 2 * u16_at body 0
  is : m ≡ pair (part body 2 (u16_at body 0)) (part body (2 + u16_at body 0) (u16_at body 0))
  ors_long : length m.ors ≡ u16_at body 0
  ands_long : length m.ands ≡ u16_at body 0

carries : (body : List ℕ) (m : Masks) → masks_in body ≡ Some m → Carries body m
unfolding masks_in
carries body m e =
    let size = u16_at body 0 in
    by_test (eqb (length body) (2 + 2 * size))
    (λ t. let n = eqb-true (length body) (2 + 2 * size) t in
    let same : pair (part body 2 size) (part body (2 + size) size) ≡ m = cc (rw t at e) in
    record {
      exact = n;
      is = sym same;
      ors_long = rw (← same) (length_part body 2 size (omega arith));
      ands_long = rw (← same) (length_part body (2 + size) size (omega arith));
    })
    (λ t. clash (cc (rw t at e)))

carried : (body : List ℕ) → length body ≡ 2 + 2 * u16_at body 0
    → masks_in body ≡ Some (pair (part body 2 (u16_at body 0)) (part body (2 + u16_at body 0) (u16_at body 0)))
unfolding masks_in
carried body n = rw (eq-eqb (length body) (2 + 2 * u16_at body 0) n)

-- ---- the answer to a masked write

module _ (t : Tables) (f : Flags) (memory message : List ℕ) (limit : ℕ) (path : List Segment) (body : List ℕ)
    (is : request_of message ≡ request 0x4E path body) where
  on_tag : is_tag_path path ≡ true → answer t f memory message limit ≡ on_target t memory 0x4E (tag_target t f true path) body limit
  unfolding answer plain by_service tag_service
  on_tag tag = rw (is, past_objects t f memory 0x4E (object_of path) path body limit refl refl, tag)

  off_tag : is_tag_path path ≡ false → Away (answer t f memory message limit).reply
  unfolding answer plain by_service
  off_tag off = rw (is, past_objects t f memory 0x4E (object_of path) path body limit refl refl, off) (otherwise_away 0x4E limit (object_of path))

  -- one with masks that its target takes stores
  stores : (m : Masks) (start : ℕ) → masks_in body ≡ Some m → TakesMasks t f path start (length m.ors)
      → answer t f memory message limit ≡ answered (fail 0x4E success) (put memory start (masked_by (part memory start (length m.ors)) m))
  unfolding masked_stored
  stores m start e k =
      let c = carries body m e in
      let n = c.exact in
      rw (
        on_tag k.tag_path,
        k.targets.permitted_is,
        le-ltb (length body) (2 + 2 * u16_at body 0) (omega arith),
        le-ltb (2 + 2 * u16_at body 0) (length body) (omega arith),
        ← c.ors_long,
        k.takes,
        k.targets.start_is,
      )
      (rw c.ors_long (rw c.is refl))

  -- what stores has status 0, and nothing else has
  record Hits : Type 0 where
    tag_path : is_tag_path path ≡ true
    target : Target
    permitted_is : tag_target t f true path ≡ found target
    exact : length body ≡ 2 + 2 * u16_at body 0
    takes : takes_mask target (u16_at body 0) ≡ true

  target_hits : (x : Resolved) → tag_target t f true path ≡ x → TurnsWell x → is_tag_path path ≡ true
      → get_or (on_target t memory 0x4E x body limit).reply 2 0 ≡ 0x00 → Hits
  unfolding masked_stored reply
  target_hits (turned status) e k tag q = absurd (done (fail 0x4E status) (inl q) (fail_away 0x4E status k))
  target_hits (found g) e k tag q =
      let size = u16_at body 0 in
      by_test (ltb (length body) (2 + 2 * size)) (λ a. clash (cc (rw a at q)))
      (λ a. by_test (ltb (2 + 2 * size) (length body)) (λ b. clash (cc (rw (a, b) at q)))
      (λ b. by_test (takes_mask g size)
      (λ c. record {
        tag_path = tag;
        target = g;
        permitted_is = e;
        exact = omega (arith, ltb-false (length body) (2 + 2 * size) a, ltb-false (2 + 2 * size) (length body) b);
        takes = c;
      })
      (λ c. clash (cc (rw (a, b, c) at q)))))

  hits : get_or (answer t f memory message limit).reply 2 0 ≡ 0x00 → Hits
  hits e =
      by_test (is_tag_path path)
      (λ tag. target_hits (tag_target t f true path) refl (target_well t f true path) tag (rw (on_tag tag) at e))
      (λ off. absurd (done (answer t f memory message limit).reply (inl e) (off_tag off)))

-- ---- tag memory, where a target starts

-- masks of one size
pub record Sized (size : ℕ) (m : Masks) : Type 0 where
  pub ors_long : length m.ors ≡ size
  pub ands_long : length m.ands ≡ size

masked_long : (size : ℕ) (bytes : List ℕ) (m : Masks) → length bytes ≡ size → Sized size m → length (masked_by bytes m) ≡ size
masked_long size bytes m n k = (masked_at_any_width bytes m.ors m.ands (k.ors_long ∙ sym n) (k.ands_long ∙ sym n)).0 ∙ n

pub join_sized : (size : ℕ) (first next : Masks) → Sized size first → Sized size next → Sized size (join first next)
join_sized size first next p q = record {
  ors_long = (ors_at_any_width first.ors next.ors (q.ors_long ∙ sym p.ors_long)).0 ∙ p.ors_long;
  ands_long = masked_long size first.ands next p.ands_long q;
}

module _ (memory : List ℕ) (start size : ℕ) (fits : start + size ≤ length memory) where
  abbrev wrote : Masks → List ℕ
  wrote m = put memory start (masked_by (part memory start size) m)

  -- TWO IN A ROW ARE ONE: the second finds what the first wrote, and writes over it
  wrote_again : (first next : Masks) → Sized size first → Sized size next
      → put (wrote first) start (masked_by (part (wrote first) start size) next) ≡ wrote (join first next)
  wrote_again first next p q =
      let bytes = part memory start size in
      let n : length bytes ≡ size = length_part memory start size fits in
      let k : length (masked_by bytes first) ≡ size = masked_long size bytes first n p in
      let there : part (wrote first) start size ≡ masked_by bytes first =
      rw k at (part_put memory start (masked_by bytes first) (omega arith)) in
      let l : length (masked_by (masked_by bytes first) next) ≡ size = masked_long size (masked_by bytes first) next k q in
      ap (λ (b : List ℕ). put (wrote first) start (masked_by b next)) there
      ∙ put_again memory start (masked_by bytes first) (masked_by (masked_by bytes first) next) (omega arith) (l ∙ sym k)
      ∙ ap (put memory start) (masked_again bytes first next)

-- the bytes of a target that takes masks are in tag memory
takes-inside : (t : Tables) (f : Flags) (n : ℕ) (path : List Segment) (start size : ℕ) → valid t n ≡ true → TakesMasks t f path start size
    → start + size ≤ n
unfolding takes_mask
takes-inside t f n path start size ok k =
    let g = k.targets.target in
    let l = target_lies_in_its_tag t f n true path g ok k.targets.permitted_is in
    let b = both_true (has_bits g.type) _ (both_true (eqb g.bit no_bit) _ k.takes).1 in
    omega (
      arith,
      eqb-true (atomic_size g.type) size b.1,
      k.targets.start_is,
      l.before_end,
      l.in_memory,
      atomic_inside t.structures g.type,
      mul-le-mul_right (element_size t g.type) l.some_elements,
    )

-- ---- past the entry

-- an accepted message has entered, and the dispatcher answered it so
record Came (t : Tables) (f : Flags) (memory message : List ℕ) (limit : ℕ) (left : List ℕ) : Type 0 where
  tables : valid t (length memory) ≡ true
  success_is : get_or (answer t f memory message limit).reply 2 0 ≡ 0x00
  left_is : (answer t f memory message limit).memory ≡ left

came : (t : Tables) (f : Flags) (memory message : List ℕ) (limit : ℕ) (buffer left : List ℕ) → Accepts t f memory message limit buffer left
    → Came t f memory message limit left
came t f memory message limit buffer left a = go (enters t f memory message limit buffer)
  where
    go : Ways t f memory message limit buffer → Came t f memory message limit left
    go (stopped k low high q) = no_reply _ k buffer memory a.bytes q a.replied_is
    go (taken p q r ok e) =
        let same : (answer t f memory message limit).reply ≡ a.bytes = cc (sym (ap (λ (x : Entered). x.outcome) e) ∙ a.replied_is) in
        record {
          tables = ok;
          success_is = rw same a.success_is;
          left_is = sym (ap (λ (x : Entered). x.memory) e) ∙ a.left_is;
        }

-- and what the dispatcher answers with status 0 is accepted, where the message may be sent
accepted_by_lem : (t : Tables) (f : Flags) (memory message : List ℕ) (limit : ℕ) (buffer left : List ℕ) → valid t (length memory) ≡ true
    → Sendable message limit buffer → answer t f memory message limit ≡ answered (fail 0x4E success) left → Accepts t f memory message limit buffer left
unfolding entry reply
accepted_by_lem t f memory message limit buffer left ok s e =
    let in-it : entry t f memory message limit buffer ≡ lay limit buffer (answered (fail 0x4E success) left) =
    rw (
      le-ltb 65535 (length message) s.request_fits,
      le-ltb 65535 limit s.limit_fits,
      le-ltb (length buffer) (room limit) s.has_room,
      ok,
      e,
    ) in
    record {
      bytes = fail 0x4E success;
      replied_is = ap (λ (x : Entered). x.outcome) in-it;
      success_is = refl;
      left_is = ap (λ (x : Entered). x.memory) in-it;
    }

-- ---- what an accepted masked write is

-- of a path and a body that are known: its target, which is the one that the path has, takes its masks
module _ (t : Tables) (f : Flags) (memory message : List ℕ) (limit : ℕ) (path : List Segment) (body : List ℕ) (m : Masks) (start : ℕ)
    (is : request_of message ≡ request 0x4E path body) (masks_are : masks_in body ≡ Some m) (targets : Targets t f path start)
    (e : get_or (answer t f memory message limit).reply 2 0 ≡ 0x00) where
  takes_them : TakesMasks t f path start (length m.ors)
  takes_them =
      let h = hits t f memory message limit path body is e in
      let same : h.target ≡ targets.target = cc (sym h.permitted_is ∙ targets.permitted_is) in
      record {
        tag_path = h.tag_path;
        targets = targets;
        takes = rw ((carries body m masks_are).ors_long, ← same) h.takes;
      }

  stored_them : (answer t f memory message limit).memory ≡ put memory start (masked_by (part memory start (length m.ors)) m)
  stored_them = ap (λ (a : Answer). a.memory) (stores t f memory message limit path body is m start masks_are takes_them)

pub accepted-masks : AcceptedMasks
unfolding answer reply
accepted-masks t f memory message limit buffer left first a = go (request_of message) refl (parsed message)
  where
    c : Came t f memory message limit left
    c = came t f memory message limit buffer left a

    go : (r : Request) → request_of message ≡ r → Parsed message r → MaskedWrite t f memory message left
    go malformed q p = clash (cc (rw q at c.success_is))
    go (request service path body) q p =
        let is : request_of message ≡ request 0x4E path body = q ∙ ap (λ (s : ℕ). request s path body) (p ∙ first) in
        let h = hits t f memory message limit path body is c.success_is in
        let to : Targets t f path h.target.start = record { target = h.target; permitted_is = h.permitted_is; start_is = refl } in
        let masks = pair (part body 2 (u16_at body 0)) (part body (2 + u16_at body 0) (u16_at body 0)) in
        let are = carried body h.exact in
        record {
          path = path;
          masks = masks;
          start = h.target.start;
          masking = record { body = body; is = is; masks_are = are };
          takes_masks = takes_them t f memory message limit path body masks _ is are to c.success_is;
          stored = sym c.left_is ∙ stored_them t f memory message limit path body masks _ is are to c.success_is;
        }

-- its answer at any limit
stored_by : (t : Tables) (f : Flags) (memory message : List ℕ) (limit : ℕ) (left : List ℕ) → MaskedWrite t f memory message left
    → answer t f memory message limit ≡ answered (fail 0x4E success) left
stored_by t f memory message limit left w =
    let a = w.masking in
    rw w.stored (stores t f memory message limit w.path a.body a.is w.masks w.start a.masks_are w.takes_masks)

pub accepted-reply : AcceptedReply
unfolding reply
accepted-reply t f memory message limit buffer left first a =
    go (enters t f memory message limit buffer)
  where
    go : Ways t f memory message limit buffer → (entry t f memory message limit buffer).outcome ≡ replied (0xCE ∷ 0x00 ∷ 0x00 ∷ 0x00 ∷ [])
    go (stopped k low high q) = no_reply _ k buffer memory a.bytes q a.replied_is
    go (taken p q r ok e) =
        ap (λ (x : Entered). x.outcome) e
        ∙ ap (λ (x : Answer). replied x.reply)
        (stored_by t f memory message limit left (accepted-masks t f memory message limit buffer left first a))

-- a masked write begins 4E
pub masking_first : (path : List Segment) (m : Masks) (message : List ℕ) → Masking path m message → get_or message 0 0 ≡ 0x4E
masking_first path m message w = sym (subst (Parsed message) w.is (parsed message))

pub masks-accepted : MasksAccepted
masks-accepted t f memory message limit buffer left ok s w =
    accepted_by_lem t f memory message limit buffer left ok s (stored_by t f memory message limit left w)

-- ---- rows of them

carried_sized : (body : List ℕ) (m : Masks) → masks_in body ≡ Some m → Sized (length m.ors) m
carried_sized body m e =
    let c = carries body m e in
    record { ors_long = refl; ands_long = c.ands_long ∙ sym c.ors_long }

-- what one of them does: masks of one size are stored in its target's bytes, which are in tag memory
record Struck (t : Tables) (f : Flags) (start : ℕ) (memory : List ℕ) (m : Masks) (left : List ℕ) (path : List Segment) : Type 0 where
  tables : valid t (length memory) ≡ true
  takes : TakesMasks t f path start (length m.ors)
  sized : Sized (length m.ors) m
  fits : start + length m.ors ≤ length memory
  left_is : left ≡ put memory start (masked_by (part memory start (length m.ors)) m)

struck : (t : Tables) (f : Flags) (start : ℕ) (memory : List ℕ) (m : Masks) (left : List ℕ) (k : Click t f start memory m left)
    → Struck t f start memory m left k.path
struck t f start memory m left k =
    let c = came t f memory k.message k.limit k.buffer left k.accepted in
    let w = k.masking in
    let takes = takes_them t f memory k.message k.limit k.path w.body m start w.is w.masks_are k.targets c.success_is in
    let stored = stored_them t f memory k.message k.limit k.path w.body m start w.is w.masks_are k.targets c.success_is in
    record {
      tables = c.tables;
      takes = takes;
      sized = carried_sized w.body m w.masks_are;
      fits = takes-inside t f (length memory) k.path start (length m.ors) c.tables takes;
      left_is = sym c.left_is ∙ stored;
    }

module _ (t : Tables) (f : Flags) (start size : ℕ) (memory : List ℕ) (fits : start + size ≤ length memory) where
  -- joined so far, and what the rest adds
  record Rowed (acc : Masks) (left : List ℕ) : Type 0 where
    sized : Sized size acc
    left_is : left ≡ wrote memory start size fits acc

  rowed : (rest : List Masks) (acc : Masks) (now left : List ℕ) → Rowed acc now → Clicks t f start size now rest left → Rowed (join_row acc rest) left
  unfolding join_row
  rowed [] acc now left r no_more = r
  rowed (m ∷ rest) acc now left r (one_more {between = between} k n more) =
      let s = struck t f start now m between k in
      let long : Sized size m = rw n at s.sized in
      let here : between ≡ put now start (masked_by (part now start size) m) = rw n at s.left_is in
      rowed rest (join acc m) between left (record {
        sized = join_sized size acc m r.sized long;
        left_is = rw r.left_is at here ∙ wrote_again memory start size fits acc m r.sized long;
      }) more

pub all_masks_join : AllMasksJoin
all_masks_join t f start size memory left first rest (one_more {between = between} k n more) path message limit buffer takes w sendable =
    let s = struck t f start memory first between k in
    let fits : start + size ≤ length memory = rw n at s.fits in
    let r = rowed t f start size memory fits rest first between left (record { sized = rw n at s.sized; left_is = rw n at s.left_is }) more in
    let long = r.sized.ors_long in
    accepted_by_lem t f memory message limit buffer left s.tables sendable
    (rw r.left_is (rw long at (stores t f memory message limit path w.body w.is (join_row first rest) start w.masks_are (rw long takes))))

pub masks-join : MasksJoin
unfolding join_row
masks-join t f start memory between left first next one two same path message limit buffer takes w sendable =
    all_masks_join t f start (length first.ors) memory left first (next ∷ []) (one_more one refl (one_more two (sym same) no_more))
    path message limit buffer takes w sendable

pub masks_join_there : MasksJoinThere
masks_join_there t f start memory between left first next one two same path message limit buffer there w sendable =
    masks-join t f start memory between left first next one two same path message limit buffer (go there) w sendable
  where
    go : (path ≡ one.path) ⊎ (path ≡ two.path) → TakesMasks t f path start (length first.ors)
    go (inl e) = rw e (struck t f start memory first between one).takes
    go (inr e) = rw (e, same) (struck t f start between next left two).takes

pub no_change_accepted : NoChangeAccepted
no_change_accepted t f memory message limit buffer path start size ok bytes takes w sendable =
    let long : length {A = ℕ} (replicate size 0) ≡ size = length-replicate size 0 in
    let fits = takes-inside t f (length memory) path start size ok takes in
    let n = length_part memory start size fits in
    let kept : put memory start (masked_by (part memory start size) (no_change size)) ≡ memory =
    ap (put memory start) (rw n at (masked_by_no_change (part memory start size) (every_part is_byte 0 memory start size bytes)))
    ∙ put_part memory start size fits in
    accepted_by_lem t f memory message limit buffer memory ok sendable
    (rw kept at (rw long at (stores t f memory message limit path w.body w.is (no_change size) start w.masks_are (rw long takes))))

-- ---- parts of an envelope: each is answered as the message alone is

alone : (t : Tables) (f : Flags) (memory message : List ℕ) (limit : ℕ) (path : List Segment) (body : List ℕ) → request_of message ≡ request 0x4E path body
    → part_answer (part_dispatch t f) memory message limit ≡ answer t f memory message limit
alone t f memory message limit path body is =
    part_is_answer t f memory message limit (λ e. clash (cc (sym e ∙ sym (subst (Parsed message) is (parsed message)))))

pub parts_join : PartsJoin
unfolding reply
parts_join t f start memory a b c limit-a limit-b limit-c path-a path-b path-c first next ok same ma ta mb tb mc tc one two =
    let ea = alone t f memory a limit-a path-a ma.body ma.is in
    let da = rw ea at one in
    let middle = (answer t f memory a limit-a).memory in
    let eb = alone t f middle b limit-b path-b mb.body mb.is in
    let db = rw (ea, eb) at two in
    let size = length first.ors in
    let ka = takes_them t f memory a limit-a path-a ma.body first start ma.is ma.masks_are ta da in
    let wa = stored_them t f memory a limit-a path-a ma.body first start ma.is ma.masks_are ta da in
    let wb = rw (← same) at (stored_them t f middle b limit-b path-b mb.body next start mb.is mb.masks_are tb db) in
    let fits = takes-inside t f (length memory) path-a start size ok ka in
    let pa = carried_sized ma.body first ma.masks_are in
    let pb : Sized size next = rw same (carried_sized mb.body next mb.masks_are) in
    let joined = join_sized size first next pa pb in
    let long = joined.ors_long in
    let single = rw long at (stores t f memory c limit-c path-c mc.body mc.is (join first next) start mc.masks_are (rw long tc)) in
    rw (alone t f memory c limit-c path-c mc.body mc.is, single, ea, eb, wb, wa)
    (refl, sym (wrote_again memory start size fits first next pa pb))
