-- The loop over an envelope's parts: what holds before each part, and what is left of it at the end.
-- Assumes nothing.
use mathlib.Core.Path.{◌≡◌, refl, sym, ap, ◌∙◌}
use mathlib.Core.Bool.{Bool, true, false, ◌&&◌}
use mathlib.Core.List.{List, [], ◌∷◌, ◌++◌, append-nil}
use Prim.Native.Nat.{ℕ, suc, ◌+◌, ◌-◌, ◌*◌, ◌≤◌, ◌<◌}
use native.Mathlib.Omega.{arith}
use native.Mathlib.Numerals.{add-one}
use native.Mathlib.Decide.{dec_le}
use native.Mathlib.Nat.{lt_of_not-le, zero-add, sub_self}
use lib.Dec.{eqb}
use lib.ListN.{length, get_or, take, drop, length-append, length-drop, drop_of_length-le}
use lib.Seq.{drop-cons, take-add}
use borrow.Author.Tests.{le-leb, lt-leb}
use Rattle.laws.specs.Pick.{both}
use Rattle.laws.specs.Put.{put}
use Rattle.laws.specs.Tests.{every}
use Rattle.laws.proofs.Put.{take_put, drop_put_past, zeroed-laid}
use Rattle.definition.specs.Bytes.{le16, numbers, part}
use Rattle.definition.specs.Reply.{Answer, answered, Status, general, extended, reply, room, fail, too_large}
use Rattle.definition.specs.Envelope.{Dispatcher, part_answer, parts_from, run_parts, and_reply, join_all, offsets_from, envelope_reply, close_envelope, envelope_service}
use Rattle.services.specs.Answers.{Answers}
use Rattle.logix.specs.Marked.{PartOf}
use Rattle.logix.specs.Placed.{PartAnswers, marked, outcome_of, Closed}
use Rattle.logix.specs.declared.parts.PartReply.{PartReply}
use Rattle.definition.proofs.Numbers.{numbers_long}
use Rattle.logix.proofs.Offsets.{parts_long}
use Rattle.logix.proofs.Placing.{marked-put, marked_rest}
use Rattle.laws.proofs.Parts.{part_stays, part_grows, laid-drop}
use Rattle.logix.proofs.Turns.{join_one, offsets_one, offsets_long, every_one, before, before_one}

abbrev pub is_fine : List ℕ → Bool
is_fine r = eqb (get_or r 2 0) 0

abbrev pub parts_in : List ℕ → ℕ → List (List ℕ)
parts_in body count = parts_from body (numbers count (drop 2 body))

pub parts_in_long : (body : List ℕ) (count : ℕ) → length (parts_in body count) ≡ count
parts_in_long body count = parts_long body (numbers count (drop 2 body)) ∙ numbers_long count (drop 2 body)

-- THE INVARIANT: some replies are done, and the run over the parts left goes on from their memory. Up to the limit their offsets and
-- their bytes stand in the buffer
pub record Going (d : Dispatcher) (mem₀ body : List ℕ) (limit : ℕ) (old : List ℕ) (count : ℕ) (mem buf : List ℕ) (used : ℕ) (fine : Bool) (i : ℕ) : Type 0 where
  pub done : List (List ℕ)
  pub goes : run_parts d limit (6 + 2 * count) (parts_in body count) mem₀ ≡ before done (run_parts d limit used (drop i (parts_in body count)) mem)
  pub number : length done ≡ i
  pub size : used ≡ 6 + 2 * count + length (join_all done)
  pub all_fine : fine ≡ every is_fine done
  pub offsets : used ≤ limit → part buf 6 (2 * i) ≡ offsets_from (2 + 2 * count) done
  pub replies : used ≤ limit → part buf (6 + 2 * count) (used - (6 + 2 * count)) ≡ join_all done
  pub rest : drop (room limit) buf ≡ drop (room limit) old
  pub bound : used ≤ limit + 6 + 2 * count + 8 * i
  pub small : count ≤ 65535
  pub long : length buf ≡ length old
  pub wide : length mem ≡ length mem₀

pub going_start : (d : Dispatcher) (mem body : List ℕ) (limit : ℕ) (buf : List ℕ) (count : ℕ) → count ≤ 65535
    → Going d mem body limit buf count mem buf (6 + 2 * count) true 0
unfolding join_all offsets_from every
going_start d mem body limit buf count h = record {
  done = [];
  goes = refl;
  number = refl;
  size = omega arith;
  all_fine = refl;
  offsets = λ _. refl;
  replies = λ _. rw sub_self;
  rest = refl;
  bound = omega arith;
  small = h;
  long = refl;
  wide = refl;
}

-- the language's "and" is the definition's
and_both : (a b : Bool) → a && b ≡ both a b
and_both true b = refl
and_both false b = refl

module _ (d : Dispatcher) (mem₀ body : List ℕ) (limit : ℕ) (old : List ℕ) (count : ℕ) (mem buf : List ℕ) (used : ℕ) (fine : Bool) (i : ℕ)
    (g : Going d mem₀ body limit old count mem buf used fine i) where
  module _ (p : List ℕ) (b : ℕ) (h : i < count) (is : PartOf body count i p) (budget : b ≡ limit - (used + 4 * (count - i - 1))) where
    abbrev one : Answer
    one = part_answer d mem p b

    run_one : run_parts d limit used (drop i (parts_in body count)) mem
        ≡ and_reply one.reply (run_parts d limit (used + length one.reply) (drop (suc i) (parts_in body count)) one.memory)
    unfolding run_parts
    run_one =
        let ps = parts_in body count in
        let l : i < length ps = rw parts_in_long h in
        let left : length (drop (suc i) ps) ≡ count - i - 1 = rw (length-drop, parts_in_long) (omega arith) in
        rw (drop-cons ps i [] l, left, ← is.is, ← budget)

    module _ (r : PartReply) (mid new mem' : List ℕ) (m : mid ≡ marked limit used i buf) (q : PartAnswers one b limit used mid r new mem')
        (room-there : room limit ≤ length old) (same : length mid ≡ length buf) (same' : length new ≡ length mid) (wide' : length mem' ≡ length mem) where
      abbrev after : List (List ℕ)
      after = g.done ++ (one.reply ∷ [])

      abbrev sum : ℕ
      sum = used + length one.reply

      after_long : length (join_all after) ≡ length (join_all g.done) + length one.reply
      after_long = rw join_one (length-append (join_all g.done) one.reply)

      offsets_on : sum ≤ limit → part new 6 (2 * (i + 1)) ≡ offsets_from (2 + 2 * count) after
      offsets_on k =
          let w = le16 (used - 4) in
          let put-there : mid ≡ put buf (6 + 2 * i) w = marked-put limit used i buf mid m (omega arith) in
          let fits : 6 + 2 * i + 2 ≤ length buf = omega (arith, g.size, g.long) in
          let written : take (6 + 2 * i + 2) mid ≡ take (6 + 2 * i) buf ++ w = rw put-there (take_put buf (6 + 2 * i) w fits) in
          part_stays mid new one.reply used sum (omega (arith, g.long)) (q.placed.stands k) refl 6 (2 * (i + 1)) (omega (arith, g.size))
          ∙ part_grows buf mid w (6 + 2 * i) (6 + 2 * i + 2) (omega arith) written refl 6 (2 * i) (2 * (i + 1)) refl (omega arith)
          ∙ ap (λ (l : List ℕ). l ++ w) (g.offsets (omega arith))
          ∙ sym (offsets_one (2 + 2 * count) g.done one.reply (used - 4) (omega (arith, g.size)))

      replies_on : sum ≤ limit → part new (6 + 2 * count) (sum - (6 + 2 * count)) ≡ join_all after
      replies_on k =
          let w = le16 (used - 4) in
          let head = 6 + 2 * count in
          let put-there : mid ≡ put buf (6 + 2 * i) w = marked-put limit used i buf mid m (omega arith) in
          let fits : 6 + 2 * i + 2 ≤ length buf = omega (arith, g.size, g.long) in
          let behind : drop head mid ≡ drop head buf = rw put-there (drop_put_past buf (6 + 2 * i) w fits head (omega arith)) in
          part_grows mid new one.reply used sum (omega (arith, g.long)) (q.placed.stands k) refl head (used - head) (sum - head)
          (omega (arith, g.size)) (omega (arith, g.size))
          ∙ ap (λ (l : List ℕ). take (used - head) l ++ one.reply) behind
          ∙ ap (λ (l : List ℕ). l ++ one.reply) (g.replies (omega arith))
          ∙ sym (join_one g.done one.reply)

      going_sum : Going d mem₀ body limit old count mem' new sum (both fine r.fine) (i + 1)
      going_sum = record {
        done = after;
        goes = g.goes ∙ ap (before g.done) run_one ∙ before_one g.done one.reply _ ∙ rw (add-one, q.memory_is);
        number = rw length-append (omega (arith, g.number));
        size = omega (arith, g.size, after_long);
        all_fine = rw (every_one, ← g.all_fine, ← q.placed.fine_is);
        offsets = offsets_on;
        replies = replies_on;
        rest = q.placed.rest ∙ marked_rest limit used i buf mid m (omega (arith, g.size)) (omega (arith, g.long)) ∙ g.rest;
        bound = omega (arith, q.least, g.bound);
        small = g.small;
        long = same' ∙ same ∙ g.long;
        wide = wide' ∙ g.wide;
      }

      pub going_more : Going d mem₀ body limit old count mem' new (used + r.len) (fine && r.fine) (i + 1)
      going_more = rw (and_both fine r.fine, q.placed.length_is) going_sum

  -- ---- the end

  all_done : i ≡ count → run_parts d limit (6 + 2 * count) (parts_in body count) mem₀ ≡ record { replies = g.done; memory = mem }
  unfolding run_parts
  all_done e =
      let l : length (parts_in body count) ≤ i = rw parts_in_long (omega arith) in
      g.goes ∙ rw (drop_of_length-le (parts_in body count) l, append-nil)

  whole_split : (service : ℕ) (s : Status) (a x y : List ℕ) → reply service s a ++ x ++ y ≡ reply service s (a ++ x ++ y)
  unfolding reply
  whole_split service (general code) a x y = refl
  whole_split service (extended code word) a x y = refl

  head_long : (service n : ℕ) (b : Bool) → length (reply service (outcome_of b) (le16 n)) ≡ 6
  unfolding reply
  head_long service n true = refl
  head_long service n false = refl

  abbrev whole : List ℕ
  whole = envelope_reply g.done

  abbrev head : List ℕ
  head = reply envelope_service (outcome_of fine) (le16 count)

  whole_is : i ≡ count → whole ≡ head ++ offsets_from (2 + 2 * count) g.done ++ join_all g.done
  unfolding envelope_reply
  whole_is e = rw (g.number, e, ← g.all_fine) (sym (whole_split envelope_service (outcome_of fine) (le16 count) _ _))

  whole_long : i ≡ count → length whole ≡ used
  whole_long e =
      let o = offsets_long (2 + 2 * count) g.done in
      rw (whole_is e, length-append, length-append, head_long) (omega (arith, o, g.number, g.size))

  module _ (r : ℕ) (new : List ℕ) (e : i ≡ count) (c : Closed limit count used fine buf r new) (room-there : room limit ≤ length old) where
    whole_stands : used ≤ limit → take used (put buf 0 head) ≡ whole
    whole_stands h =
        let x = put buf 0 head in
        let n = head_long envelope_service count fine in
        let fits : 0 + length head ≤ length buf = omega (arith, n, g.long) in
        let t : take 6 x ≡ head = rw (n, zero-add) at (take_put buf 0 head fits) in
        let six : drop 6 x ≡ drop 6 buf = drop_put_past buf 0 head fits 6 (omega (arith, n)) in
        let far : drop (6 + 2 * count) x ≡ drop (6 + 2 * count) buf = drop_put_past buf 0 head fits (6 + 2 * count) (omega (arith, n)) in
        let o : part buf 6 (2 * count) ≡ offsets_from (2 + 2 * count) g.done = ap (λ (k : ℕ). part buf 6 (2 * k)) (sym e) ∙ g.offsets h in
        let cut : used ≡ 6 + 2 * count + (used - (6 + 2 * count)) = omega (arith, g.size) in
        ap (λ (k : ℕ). take k x) cut ∙ take-add (6 + 2 * count) (used - (6 + 2 * count)) x
        ∙ ap (λ (l : List ℕ). l ++ take (used - (6 + 2 * count)) (drop (6 + 2 * count) x)) (take-add 6 (2 * count) x)
        ∙ (rw (t, six, far, o, g.replies h))
        ∙ sym (whole_is e)

    closed_fits : used ≤ limit → Answers limit (answered whole mem) old r new mem
    closed_fits h =
        let n = head_long envelope_service count fine in
        let fits : 0 + length head ≤ length buf = omega (arith, n, g.long) in
        let behind : drop (room limit) (put buf 0 head) ≡ drop (room limit) old = drop_put_past buf 0 head fits (room limit) (omega (arith, n)) ∙ g.rest in
        record {
          length_is = c.length_is h ∙ sym (whole_long e);
          buffer_is = c.buffer_is h ∙ zeroed-laid (room limit) old (put buf 0 head) whole used (whole_long e) (whole_stands h) behind;
          memory_is = refl;
        }

    closed_large : limit < used → Answers limit (answered (fail envelope_service too_large) mem) old r new mem
    closed_large h =
        let l = c.large h in
        record { length_is = l.length_is; buffer_is = l.buffer_is ∙ laid-drop (room limit) buf old _ g.rest; memory_is = refl }

    pub going_end : Answers limit (close_envelope limit (run_parts d limit (6 + 2 * count) (parts_in body count) mem₀)) old r new mem
    unfolding close_envelope
    going_end =
        rw (all_done e, whole_long e)
        (elim (dec_le used limit) [
          | yes h ↦ rw (le-leb used limit h) (closed_fits h)
          | no h ↦ rw (lt-leb used limit (lt_of_not-le h))
              (closed_large (lt_of_not-le h))
        ])
