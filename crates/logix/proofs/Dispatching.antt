-- A message by its request: malformed, an envelope, or any other; a part that is no envelope is dispatched as a message is.
-- Assumes nothing.
use mathlib.Core.Path.{◌≡◌, refl, sym, ap, ◌∙◌}
use mathlib.Core.Bool.{Bool, true, false, not}
use mathlib.Core.List.{List, ◌++◌}
use Rattle.std.specs.Prelude.{Option, None, Some}
use Prim.Native.Nat.{ℕ, ◌+◌, ◌-◌, ◌*◌, ◌<◌, ◌≤◌}
use native.Mathlib.Omega.{arith}
use lib.Dec.{ltb, eqb}
use lib.ListN.{length, get_or, take, drop, length-drop}
use lib.Seq.{length-take-le}
use borrow.Author.Tests.{ltb-false, eq-eqb, ne_eqb, not-true, not-false}
use Rattle.std.proofs.lemmas.List.{take_rest}
use Rattle.laws.specs.Pick.{pick, both, is_some}
use Rattle.laws.proofs.Chain.{by_test, clash}
use Rattle.definition.specs.Bytes.{u16_at, part}
use Rattle.definition.specs.Reply.{reply, room, fail, path_error, not_supported, too_short}
use Rattle.definition.specs.Segment.{Segment, segments}
use Rattle.definition.specs.Request.{malformed, request, with_path, request_of, object_of}
use Rattle.definition.specs.Tables.{Tables, Flags, takes_envelopes}
use Rattle.definition.specs.Envelope.{Dispatcher, part_answer, parts_of, run_parts, close_envelope, envelope, envelope_service}
use Rattle.definition.specs.Answer.{plain, part_dispatch, is_router, any_request, plain_request, answer}
use Rattle.definition.proofs.Replies.{Proper, proper_answer}
use Rattle.cip.specs.Writes.{Laid}
use Rattle.path.specs.Paths.{Split}
use Rattle.path.specs.declared.request.Request.{Request}
use Rattle.services.specs.Answers.{Answers, OnPath}
use Rattle.logix.specs.Answered.{EnvelopeTest}
use Rattle.logix.proofs.Offsets.{HasParts}
use Rattle.logix.specs.Placed.{Copied, PartAnswers}
use Rattle.logix.specs.declared.parts.PartReply.{PartReply}
use Rattle.logix.proofs.Placing.{copied_placed, in_the_tail, by_scratch}
use Rattle.logix.proofs.Going.{parts_in, parts_in_long}

-- ---- the answer by the message's request

-- the segments of a path that decodes
record Decodes (path : List ℕ) : Type 0 where
  list : List Segment
  is : segments path ≡ Some list

decodes_by : (path : List ℕ) (o : Option (List Segment)) → segments path ≡ o → is_some o ≡ true → Decodes path
decodes_by path None e h = clash (cc h)
decodes_by path (Some l) e h = record { list = l; is = e }

-- a request's data is shorter than its message
body_by : (service : ℕ) (o : Option (List Segment)) (body : List ℕ) (s : ℕ) (l : List Segment) (b : List ℕ) → with_path service o body ≡ request s l b
    → body ≡ b
body_by service None body s l b e = clash (cc e)
body_by service (Some path) body s l b e = cc e

data_shorter : (m : List ℕ) (s : ℕ) (l : List Segment) (b : List ℕ) → request_of m ≡ request s l b → length b < length m
unfolding request_of
data_shorter m s l b e =
    let size = 2 * get_or m 1 0 in
    by_test (ltb (length m) (2 + size)) (λ t. clash (cc (rw t at e)))
    (λ t.
    let h = ltb-false (length m) (2 + size) t in
    let is : drop (2 + size) m ≡ b = body_by (get_or m 0 0) (segments (part m 2 size)) (drop (2 + size) m) s l b (rw t at e) in
    let n : length b ≡ length m - (2 + size) = ap length (sym is) ∙ length-drop (2 + size) m in
    omega (arith, n, h))

module _ (t : Tables) (f : Flags) (memory message : List ℕ) (limit : ℕ) (old : List ℕ) (r : ℕ) (new after : List ℕ) where
  abbrev Answered : Type 0
  Answered = Answers limit (answer t f memory message limit) old r new after

  pub answer-malformed : (service : ℕ) → request_of message ≡ malformed → service ≡ get_or message 0 0
      → Laid limit (fail service path_error) old r new → after ≡ memory → Answered
  unfolding answer
  answer-malformed service m n l k = rw (m, ← n) (record { length_is = l.length_is; buffer_is = l.buffer_is; memory_is = k })

  module _ (q : Request) (split : Split message q) where
    decoded : Decodes q.path.now
    decoded = decodes_by q.path.now (segments q.path.now) refl split.decodes

    request_is : request_of message ≡ request q.service decoded.list q.body.now
    request_is = split.is ∙ ap (λ o. with_path q.service o q.body.now) decoded.is

    answer_is : answer t f memory message limit
        ≡ pick (both (eqb q.service envelope_service) (is_router (object_of decoded.list))) (envelope f (part_dispatch t f) memory q.body.now limit)
        (plain t f memory q.service decoded.list q.body.now limit)
    unfolding answer
    answer_is = rw request_is refl

    pub answer-envelope : (b : Bool) → EnvelopeTest q.service q.path.now b → b ≡ true
        → Answers limit (envelope f (part_dispatch t f) memory q.body.now limit) old r new after → Answered
    answer-envelope b test on a = rw (answer_is, ← (test.is decoded.list decoded.is), on) a

    pub answer-plain : (b : Bool) → EnvelopeTest q.service q.path.now b → b ≡ false
        → OnPath q.path.now limit (λ l. plain t f memory q.service l q.body.now limit) old r new after → Answered
    answer-plain b test off a = rw (answer_is, ← (test.is decoded.list decoded.is), off) (a.is decoded.list decoded.is)

pub body-shorter : (message : List ℕ) (q : Request) → Split message q → length q.body.now < length message
body-shorter message q split =
    let decoded = decodes_by q.path.now (segments q.path.now) refl split.decodes in
    data_shorter message q.service decoded.list q.body.now (split.is ∙ ap (λ o. with_path q.service o q.body.now) decoded.is)

-- ---- a part that does not start with 0x0A is answered as a message is

module _ (t : Tables) (f : Flags) (memory p : List ℕ) (budget service : ℕ) (first : service ≡ get_or p 0 0) (other : service ≡ 0x0A → ⊥) where
  not-envelope : eqb (get_or p 0 0) 0x0A ≡ false
  not-envelope = ne_eqb (get_or p 0 0) 0x0A (λ e. other (first ∙ e))

  agree_by : (o : Option (List Segment)) (body : List ℕ)
      → any_request t f memory p (with_path (get_or p 0 0) o body) budget ≡ plain_request t f memory p (with_path (get_or p 0 0) o body) budget
  agree_by None body = refl
  agree_by (Some path) body = rw not-envelope

  pub part_agrees : answer t f memory p budget ≡ part_answer (part_dispatch t f) memory p budget
  unfolding answer part_answer part_dispatch request_of
  part_agrees =
      rw not-envelope
      (by_test (ltb (length p) (2 + 2 * get_or p 1 0)) (λ e. rw e) (λ e. rw e (agree_by (segments (part p 2 (2 * get_or p 1 0)))
      (drop (2 + 2 * get_or p 1 0) p))))

  abbrev whole : Proper budget (answer t f memory p budget).reply
  whole = proper_answer t f memory p budget

  module _ (limit used : ℕ) (old : List ℕ) (n : ℕ) (new mem : List ℕ) where
    pub part_in_place : 8 ≤ budget → budget ≤ limit - used → room limit ≤ length old
        → Answers budget (answer t f memory p budget) (take (length old - used) (drop used old)) n new mem
        → PartAnswers (part_answer (part_dispatch t f) memory p budget) budget limit used old
        (record { len = n; fine = eqb (get_or (take used old ++ (new ++ drop (length old - used) (drop used old))) (used + 2) 0) 0 })
        (take used old ++ (new ++ drop (length old - used) (drop used old))) mem
    part_in_place b l k a = rw (← part_agrees)
        (in_the_tail (answer t f memory p budget) budget limit used old n new mem whole.headed.long whole.fits b l k a)

  -- through a scratch of eight bytes
  module _ (n : ℕ) (scratch new mem : List ℕ) (small : budget < 8) (eight : length scratch ≡ 8)
      (a : Answers budget (answer t f memory p budget) scratch n new mem) where
    pub in_scratch : length new ≡ length scratch → (n ≤ length new) × (n ≡ length (take n new)) × (3 ≤ length (take n new))
    in_scratch e =
        let fits : n ≤ length new = omega (arith, a.length_is, whole.fits) in
        let cut = length-take-le n new fits in
        (fits, sym cut, omega (arith, cut, a.length_is, whole.headed.long))

    pub part_by_scratch : (limit used : ℕ) (old : List ℕ) (r : PartReply) (end : List ℕ) → room limit ≤ length old → Copied (take n new) limit used old r end
        → PartAnswers (part_answer (part_dispatch t f) memory p budget) budget limit used old r end mem
    part_by_scratch limit used old r end k w =
        rw (← part_agrees)
        (by_scratch (answer t f memory p budget) budget limit used old n new mem whole.fits small scratch eight a r end
        (copied_placed (take n new) limit used old r end k w))

-- what a dispatch needs of the end of a buffer
pub tail-room : (old : List ℕ) (budget limit used : ℕ) → 8 ≤ budget → budget ≤ limit - used → room limit ≤ length old
    → room budget ≤ length (take (length old - used) (drop used old))
tail-room old budget limit used b l k = rw (take_rest, length-drop) (omega arith)

pub part_declined : (d : Dispatcher) (memory p : List ℕ) (budget service limit used : ℕ) (old : List ℕ) (r : PartReply) (new : List ℕ) → service ≡ get_or p 0 0
    → service ≡ 0x0A
    → room limit ≤ length old → Copied (fail envelope_service not_supported) limit used old r new
    → PartAnswers (part_answer d memory p budget) budget limit used old r new memory
unfolding part_answer reply
part_declined d memory p budget service limit used old r new e h k w =
    rw (eq-eqb (get_or p 0 0) 0x0A (sym e ∙ h))
    (record { placed = copied_placed (fail envelope_service not_supported) limit used old r new k w; least = omega arith; memory_is = refl })

-- ---- an envelope that is refused, and one whose parts are answered

module _ (f : Flags) (d : Dispatcher) (memory body : List ℕ) (limit : ℕ) (old : List ℕ) (r : ℕ) (new after : List ℕ) where
  abbrev Enveloped : Type 0
  Enveloped = Answers limit (envelope f d memory body limit) old r new after

  pub envelope_off : (b : Bool) → b ≡ takes_envelopes f → not b ≡ true → Laid limit (fail envelope_service not_supported) old r new → after ≡ memory → Enveloped
  unfolding envelope
  envelope_off b e n l k = rw (← e, not-true b n) (record { length_is = l.length_is; buffer_is = l.buffer_is; memory_is = k })

  no_parts : (o : Option (List (List ℕ))) → is_some o ≡ false → o ≡ None
  no_parts None e = refl
  no_parts (Some x) e = clash (cc e)

  pub envelope-short : (b : Bool) → b ≡ takes_envelopes f → not b ≡ false → is_some (parts_of body) ≡ false
      → Laid limit (fail envelope_service too_short) old r new → after ≡ memory → Enveloped
  unfolding envelope
  envelope-short b e n h l k =
      rw (← e, not-false b n, no_parts (parts_of body) h) (record { length_is = l.length_is; buffer_is = l.buffer_is; memory_is = k })

  pub envelope_runs : (b : Bool) (count : ℕ) → b ≡ takes_envelopes f → not b ≡ false → HasParts body → count ≡ u16_at body 0
      → Answers limit (close_envelope limit (run_parts d limit (6 + 2 * count) (parts_in body count) memory)) old r new after → Enveloped
  unfolding envelope
  envelope_runs b count e n h c a =
      let long : length (parts_in body count) ≡ count = parts_in_long body count in
      rw (← e, not-false b n, h.is, ← c, long) a
