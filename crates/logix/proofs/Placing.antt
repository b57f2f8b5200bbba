-- What the writers of an envelope leave, and one part's reply in place or through a scratch.
-- Assumes nothing.
use mathlib.Core.Path.{◌≡◌, refl, sym, ap, ◌∙◌}
use mathlib.Core.Bool.{Bool, true, false}
use mathlib.Core.List.{List, [], ◌++◌, append-nil}
use Prim.Native.Nat.{ℕ, ◌+◌, ◌-◌, ◌*◌, ◌%◌, ◌≤◌, ◌<◌}
use native.Mathlib.Omega.{arith}
use Rattle.std.proofs.lemmas.List.{get_or-drop}
use lib.Dec.{leb, eqb}
use lib.ListN.{length, get_or, take, drop, length-drop, drop_of_length-le, get_or-append}
use lib.Seq.{take_all, length-take-le, take-append-add, drop-append-add, drop-drop, get_or-take, get_or-append-add}
use borrow.Author.Tests.{le-leb, leb-true}
use Rattle.laws.specs.Put.{put, zeroed, laid}
use Rattle.laws.proofs.Chain.{by_test}
use Rattle.laws.proofs.Put.{take_put, drop_put_past, take-laid, drop-laid}
use Rattle.definition.specs.Bytes.{le16}
use Rattle.definition.specs.Reply.{Answer, Status, reply, room, fail, too_large, not_supported}
use Rattle.definition.specs.Envelope.{envelope_service}
use Rattle.cip.specs.Statuses.{has_word}
use Rattle.cip.specs.Writes.{Written, Laid}
use Rattle.cip.proofs.Capped.{header_then}
use Rattle.services.specs.Answers.{Answers}
use Rattle.logix.specs.Placed.{Copied, Placed, PartAnswers, marked, outcome_of, Closed}
use Rattle.logix.specs.declared.parts.PartReply.{PartReply}

-- ---- a reply that is copied where it fits

module _ (src : List ℕ) (n limit used : ℕ) (old : List ℕ) (some_bytes : 3 ≤ n) (there : n ≤ length src) where
  abbrev what : PartReply
  what = record { len = n; fine = eqb (get_or src 2 0) 0 }

  cut_long : length (take n src) ≡ n
  cut_long = length-take-le n src there

  cut_fine : eqb (get_or src 2 0) 0 ≡ eqb (get_or (take n src) 2 0) 0
  cut_fine = rw (get_or-take n src 2 0 (omega arith))

  pub copied : (new : List ℕ) → new ≡ put old used (take n src) → used + n ≤ limit → Copied (take n src) limit used old what new
  copied new e h = record {
    length_is = sym cut_long;
    fine_is = cut_fine;
    buffer_is = rw (le-leb (used + length (take n src)) limit (omega (arith, cut_long))) e;
  }

-- what is so copied stands where it fits, and nothing behind the room changes
module _ (bytes : List ℕ) (limit used : ℕ) (old : List ℕ) (r : PartReply) (new : List ℕ) (there : room limit ≤ length old)
    (c : Copied bytes limit used old r new) where
  copied_put : used + length bytes ≤ limit → new ≡ put old used bytes
  copied_put h = c.buffer_is ∙ rw (le-leb (used + length bytes) limit h)

  copied_rest : drop (room limit) new ≡ drop (room limit) old
  copied_rest =
      by_test (leb (used + length bytes) limit)
      (λ t. let h = leb-true (used + length bytes) limit t in
      rw (copied_put h) (drop_put_past old used bytes (omega (arith, h)) (room limit) (omega (arith, h))))
      (λ t. ap (drop (room limit)) (c.buffer_is ∙ rw t))

  pub copied_placed : Placed bytes limit used old r new
  copied_placed = record {
    length_is = c.length_is;
    fine_is = c.fine_is;
    stands = λ h. rw (copied_put h) (take_put old used bytes (omega (arith, h)));
    rest = copied_rest;
  }

-- ---- an envelope's offsets and its end

module _ (limit used i : ℕ) (old : List ℕ) where
  module _ (new : List ℕ) where
    pub marked-put : new ≡ marked limit used i old → used ≤ limit → new ≡ put old (6 + 2 * i) (le16 (used - 4))
    marked-put m h = m ∙ rw (le-leb used limit h)

    pub marked_rest : new ≡ marked limit used i old → 6 + 2 * i + 2 ≤ used → room limit ≤ length old → drop (room limit) new ≡ drop (room limit) old
    marked_rest m k l =
        by_test (leb used limit)
        (λ t. let h = leb-true used limit t in
        rw (marked-put m h) (drop_put_past old (6 + 2 * i) (le16 (used - 4)) (omega (arith, h)) (room limit) (omega (arith, h))))
        (λ t. ap (drop (room limit)) (m ∙ rw t))

pub closed_late : (limit count used : ℕ) (fine : Bool) (old : List ℕ) (r : ℕ) (new : List ℕ) → limit < used
    → Laid limit (fail envelope_service too_large) old r new
    → Closed limit count used fine old r new
closed_late limit count used fine old r new h l = record { large = λ _. l; length_is = λ k. absurd (omega arith); buffer_is = λ k. absurd (omega arith) }

no_word : (b : Bool) → has_word (outcome_of b) ≡ false
no_word true = refl
no_word false = refl

pub closed : (limit count used : ℕ) (fine : Bool) (s : Status) (w h : ℕ) (old x y : List ℕ) (r : ℕ) (new : List ℕ) → used ≤ limit → count ≤ 65535
    → room limit ≤ length old
    → s ≡ outcome_of fine → Written 0 (reply envelope_service s []) old h x → w ≡ count % 65536 → y ≡ put x 4 (le16 w) → r ≡ used
    → new ≡ zeroed used (room limit) y
    → Closed limit count used fine old r new
closed limit count used fine s w h old x y r new l m k e a b p q z =
    let n : w ≡ count = omega arith in
    let start = header_then envelope_service (outcome_of fine) (le16 count) old x y h (no_word fine) (rw (← e) a) (rw (← n) p) (omega arith) in
    record { large = λ o. absurd (omega arith); length_is = λ _. q; buffer_is = λ _. z ∙ ap (zeroed used (room limit)) start.buffer_is }

-- ---- one part

third_of : (m : ℕ) (old ys new : List ℕ) → new ≡ laid m old ys → 4 ≤ length ys → get_or new 2 0 ≡ get_or ys 2 0
unfolding laid
third_of m old ys new e h = rw e (get_or-append ys _ 0 2 (omega arith))

behind : (m k : ℕ) (old ys new : List ℕ) → new ≡ laid m old ys → length ys ≤ m → m ≤ k → drop k new ≡ drop k old
behind m k old ys new e h l =
    let c : k ≡ m + (k - m) = omega arith in
    ap (λ (j : ℕ). drop j new) c ∙ sym (drop-drop (k - m) m new) ∙ ap (drop (k - m)) (rw e (drop-laid m old ys h)) ∙ drop-drop (k - m) m old
    ∙ ap (λ (j : ℕ). drop j old) (sym c)

module _ (a : Answer) (budget limit used : ℕ) (old : List ℕ) (n : ℕ) (new mem : List ℕ) where
  -- in place: the part's buffer is the end of the whole
  in_place : 4 ≤ length a.reply → length a.reply ≤ room budget → 8 ≤ budget → budget ≤ limit - used → room limit ≤ length old
      → Answers budget a (drop used old) n new mem
      → PartAnswers a budget limit used old (record { len = n; fine = eqb (get_or (take used old ++ new) (used + 2) 0) 0 }) (take used old ++ new) mem
  in_place four short b f k l =
      let ys = a.reply in
      let m : room budget ≡ budget = omega arith in
      let u : length (take used old) ≡ used = length-take-le used old (omega arith) in
      let w : new ≡ laid budget (drop used old) ys = rw m at l.buffer_is in
      let c : room limit ≡ used + (limit - used) = omega arith in
      let third : get_or (take used old ++ new) (used + 2) 0 ≡ get_or ys 2 0 =
      ap (λ (j : ℕ). get_or (take used old ++ new) (j + 2) 0) (sym u) ∙ get_or-append-add (take used old) new 2 0
      ∙ third_of budget (drop used old) ys new w (omega arith) in
      record {
        placed = record {
          length_is = l.length_is;
          fine_is = rw third;
          stands = λ _. ap (λ (j : ℕ). take (j + length ys) (take used old ++ new)) (sym u) ∙ take-append-add (take used old) new (length ys)
              ∙ ap (λ (x : List ℕ). take used old ++ x) (rw w (take-laid budget (drop used old) ys));
          rest = rw c (ap (λ (j : ℕ). drop (j + (limit - used)) (take used old ++ new)) (sym u) ∙ drop-append-add (take used old) new (limit - used)
              ∙ behind budget (limit - used) (drop used old) ys new w (omega arith) (omega arith) ∙ drop-drop (limit - used) used old);
        };
        least = short;
        memory_is = l.memory_is;
      }

  -- the same, as a part of a buffer that was lent comes back: `take` to the end, and nothing after it
  pub in_the_tail : 4 ≤ length a.reply → length a.reply ≤ room budget → 8 ≤ budget → budget ≤ limit - used → room limit ≤ length old
      → Answers budget a (take (length old - used) (drop used old)) n new mem
      → PartAnswers a budget limit used old
      (record { len = n; fine = eqb (get_or (take used old ++ (new ++ drop (length old - used) (drop used old))) (used + 2) 0) 0 })
      (take used old ++ (new ++ drop (length old - used) (drop used old))) mem
  in_the_tail four short b f k l =
      let e : length (drop used old) ≤ length old - used = rw length-drop (omega arith) in
      rw (drop_of_length-le (drop used old) e, append-nil) (in_place four short b f k (rw (take_all (length old - used) (drop used old) e) at l))

  module _ (short : length a.reply ≤ room budget) (small : budget < 8) (scratch : List ℕ) (eight : length scratch ≡ 8)
      (l : Answers budget a scratch n new mem) where
    abbrev eight_room : room budget ≡ 8
    eight_room = omega arith

    scratch_is : new ≡ laid 8 scratch a.reply
    scratch_is = rw eight_room at l.buffer_is

    -- through a scratch of eight bytes
    pub by_scratch : (r : PartReply) (end : List ℕ) → Placed (take n new) limit used old r end → PartAnswers a budget limit used old r end mem
    by_scratch r end w =
        let t : take n new ≡ a.reply = rw (scratch_is, l.length_is) (take-laid 8 scratch a.reply) in
        record { placed = rw t at w; least = short; memory_is = l.memory_is }

-- the refusal of a part that is itself an envelope
module _ (scratch new : List ℕ) (n : ℕ) (l : Laid 0 (fail envelope_service not_supported) scratch n new) where
  pub refused_long : n ≡ 4
  unfolding reply
  refused_long = l.length_is

  pub refused_copied : (limit used : ℕ) (old : List ℕ) (r : PartReply) (end : List ℕ) → Copied (take n new) limit used old r end
      → Copied (fail envelope_service not_supported) limit used old r end
  refused_copied limit used old r end w =
      let t : take n new ≡ fail envelope_service not_supported = rw (l.buffer_is, l.length_is)
      (take-laid (room 0) scratch (fail envelope_service not_supported)) in
      rw t at w

-- a byte of the tail of a buffer
pub tail_byte : (x : List ℕ) (used i : ℕ) → get_or (take (length x - used) (drop used x)) i 0 ≡ get_or x (used + i) 0
tail_byte x used i = rw (take_all (length x - used) (drop used x) (omega (arith, length-drop used x)), get_or-drop)
