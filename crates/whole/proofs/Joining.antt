-- A reply's data as it lies in the reply buffer, and the replies' data joined one after the other.
-- Assumes nothing.
use mathlib.Core.Path.{◌≡◌, refl, sym, ap, ◌∙◌}
use mathlib.Core.List.{List, []}
use Prim.Native.Nat.{ℕ, ◌+◌, ◌-◌, ◌≤◌, ◌<◌}
use native.Mathlib.Omega.{arith}
use lib.Dec.{leb}
use lib.ListN.{length, take, drop, get_or, length-append, length-drop, take-append-drop}
use lib.Seq.{take_all, take-add, drop-drop, drop-append_seam, length-take-le}
use borrow.Author.Tests.{le-leb, lt-leb, leb-false}
use Rattle.laws.specs.Put.{put, laid, KeptFrom}
use Rattle.laws.proofs.Put.{put_then, length_part, kept_laid}
use Rattle.laws.proofs.Parts.{laid-drop}
use Rattle.laws.proofs.Until.{until-done, until_more}
use Rattle.definition.specs.Reply.{Answer, reply, room}
use Rattle.definition.specs.Tables.{Tables, Flags}
use Rattle.definition.specs.Fragment.{space, rounded, size_of, status_of, fragment_reply}
use Rattle.definition.specs.Read.{selected_bytes}
use Rattle.definition.specs.Answer.{answer}
use Rattle.definition.proofs.Cut.{Cut, whole, part, cuts, size_positive, size_le, rounded_positive, rounded_le}
use Rattle.definition.proofs.Replies.{proper_answer}
use Rattle.definition.proofs.Selected.{granted-some}
use Rattle.cip.specs.Writes.{Written}
use Rattle.continued.specs.Point3.{read_request, Readable}
use Rattle.continued.proofs.Point3.{selected-few}
use Rattle.whole.specs.declared.asked.Turn.{Turn}
use Rattle.whole.specs.declared.asked.Turn.TheVariants.{Last, More}
use Rattle.whole.specs.Whole.{chosen, is_sendable, last_chunk}
use Rattle.whole.specs.Asked.{Taken, Holds, Joined}
use Rattle.whole.specs.Parts.{chosen_bytes, last_of, Joinable, Brings}
use Rattle.whole.proofs.Sending.{readable, selected-answer}

-- ---- a fragment of the bytes from an offset on

module _ (header selected : List ℕ) (offset limit : ℕ) (due : offset < length selected) (space-left : 5 + length header ≤ limit) where
  abbrev size : ℕ
  size = size_of (length selected - offset) (space (length header) limit)

  abbrev sent : List ℕ
  sent = fragment_reply 0x52 header (drop offset selected) limit

  sent_length : length (take size (drop offset selected)) ≡ size
  sent_length = length_part selected offset size (omega (arith, size_le (length selected - offset) (space (length header) limit)))

  pub fragment_length : length sent ≡ 4 + length header + size
  unfolding fragment_reply reply
  fragment_length =
      rw (length-drop offset selected) (omega (arith, length-append header (take size (drop offset selected)), sent_length))

  module _ (first : ℕ) (behind : first ≡ 4 + length header) where
    fragment_data : drop first sent ≡ take size (drop offset selected)
    unfolding fragment_reply reply
    fragment_data = rw (behind, ← drop-drop (length header) 4, length-drop, drop-append_seam) refl

    fragment_status : get_or sent 2 0 ≡ status_of (length selected - offset) (space (length header) limit)
    unfolding fragment_reply reply
    fragment_status = rw (length-drop offset selected) refl

    module _ (out filled : List ℕ) (v : Turn) (j : Joined sent first offset out v filled) where
      joined : filled ≡ put out offset (take size (drop offset selected))
      joined = j.out_is ∙ ap (put out offset) fragment_data

      ending : offset + (length sent - first) ≡ offset + size
      ending = omega (arith, fragment_length)

      pub brings : Brings (space (length header) limit) selected offset out v filled
      brings = go (cuts (length selected - offset) (space (length header) limit))
        where
          go : Cut (length selected - offset) (space (length header) limit) → Brings (space (length header) limit) selected offset out v filled
          go (whole h e k) =
              let is : v ≡ Last (offset + size) = j.turn_is ∙ rw (fragment_status, k, ending) refl in
              rw is (record {
                is = (
                  omega arith,
                  joined ∙ ap (put out offset) (take_all size (drop offset selected) (omega (arith, length-drop offset selected))),
                  omega arith,
                );
              })
          go (part h e k) =
              let is : v ≡ More (offset + size) = j.turn_is ∙ rw (fragment_status, k, ending) refl in
              let some = size_positive (length selected - offset) (space (length header) limit) (omega arith) (omega arith) in
              let few = rounded_le (space (length header) limit) in
              let q : offset + size - offset ≡ size = omega arith in
              rw is (record { is = (omega arith, omega arith, rw q joined, omega arith, omega arith) })

-- ---- one reply to a read that selects something

module _ {t : Tables} {f : Flags} {m path : List ℕ} {elements limit header buffer room_out : ℕ}
    (a : Taken (is_sendable path) t m limit buffer) (j : Joinable t f m path elements limit header room_out) where
  pub chosen-bytes : chosen_bytes m (chosen t f path elements) ≡ selected_bytes j.selection m
  chosen-bytes = ap (chosen_bytes m) j.chosen_is

  pub chosen-fits : length (chosen_bytes m (chosen t f path elements)) ≤ room_out
  chosen-fits = rw chosen-bytes j.fits

  pub chosen-few : (got : ℕ) → got < length (chosen_bytes m (chosen t f path elements)) → got ≤ 65536
  chosen-few got due = omega (arith, rw chosen-bytes at due, selected-few t j.selection m a.tables)

  reads : elements < 65536 → Readable t f m path elements j.selection
  reads count = readable t f m path elements j.selection a.sendable a.tables count j.chosen_is

  pub chosen-some : elements < 65536 → 0 < length (chosen_bytes m (chosen t f path elements))
  chosen-some count = let r = reads count in rw chosen-bytes (granted-some t f r.decoded elements j.selection m a.tables r.grants)

  sent_is : (got : ℕ) → elements < 65536 → got < length (chosen_bytes m (chosen t f path elements))
      → (answer t f m (read_request path elements got) limit).reply ≡ fragment_reply 0x52 j.selection.header (drop got (selected_bytes j.selection m)) limit
  sent_is got count due =
      ap (λ (x : Answer). x.reply) (selected-answer t f m path elements j.selection got limit (reads count) (rw chosen-bytes at due))

module _ {t : Tables} {f : Flags} {m path : List ℕ} {elements limit header got buffer room_out : ℕ} (a : Taken (is_sendable path) t m limit buffer)
    (j : Joinable t f m path elements limit header room_out) (due : got < length (chosen_bytes m (chosen t f path elements)))
    (count : elements < 65536) {memory : List ℕ} (same : memory ≡ m) where
  abbrev selected : List ℕ
  selected = selected_bytes j.selection m

  abbrev replied : List ℕ
  replied = (answer t f memory (read_request path elements got) limit).reply

  less : got < length selected
  less = rw (chosen-bytes a j) at due

  reply_is : replied ≡ fragment_reply 0x52 j.selection.header (drop got selected) limit
  reply_is = rw same (sent_is a j got count due)

  open_space : 5 + length j.selection.header ≤ limit
  open_space = omega (arith, j.header_is, j.some_room)

  part_length : length replied ≡ 4 + header + size_of (length selected - got) (space header limit)
  part_length = rw (reply_is, j.header_is) (fragment_length j.selection.header selected got limit less open_space)

  pub part_holds : Holds replied (4 + header) got room_out
  part_holds =
      (omega (arith, part_length), omega (arith, part_length, size_le (length selected - got) (space header limit), less, j.fits))

  pub part_brings : {out filled : List ℕ} {v : Turn} → Joined replied (4 + header) got out v filled
      → Brings (space header limit) (chosen_bytes m (chosen t f path elements)) got out v filled
  part_brings {out} {filled} {v} joins =
      rw (chosen-bytes a j, j.header_is)
      (brings j.selection.header selected got limit less open_space (4 + header) (omega (arith, j.header_is)) out filled v (rw reply_is at joins))

-- ---- the last chunk: one reply more, and the last one

last_more : (s : ℕ) (chunk : List ℕ) → 0 < s → s < length chunk → last_chunk s chunk ≡ last_chunk s (drop (rounded s) chunk)
last_more s chunk p h =
    until_more (λ c. leb (length c) s) (drop (rounded s)) (λ c. Unit {0}) (λ c. length c)
    (λ c g e. (tt, omega (arith, length-drop (rounded s) c, rounded_positive s p, leb-false (length c) s e)))
    (length chunk) chunk tt (lt-leb (length chunk) s h) (omega arith)

last_done : (s : ℕ) (chunk : List ℕ) → length chunk ≤ s → last_chunk s chunk ≡ chunk
last_done s chunk h = until-done (λ c. leb (length c) s) (drop (rounded s)) (length chunk) chunk (le-leb (length chunk) s h)

-- ---- the reply buffer: each reply is laid over the one before it

module _ {t : Tables} {f : Flags} {m path : List ℕ} {elements limit header room_out : ℕ} (start old new : List ℕ)
    (a : Taken (is_sendable path) t m limit (length start)) (j : Joinable t f m path elements limit header room_out)
    {memory : List ℕ} (same : memory ≡ m) (got : ℕ)
    (kept : KeptFrom (room limit) start old) (lies : new ≡ laid (room limit) old (answer t f memory (read_request path elements got) limit).reply) where
  pub reply-over : KeptFrom (room limit) start new
  reply-over =
      kept_laid (room limit) start old new kept _ lies (proper_answer t f memory (read_request path elements got) limit).fits
      (omega (arith, kept.1, a.has_room))

  abbrev all : List ℕ
  all = chosen_bytes m (chosen t f path elements)

  pub reply_last : elements < 65536 → got < length all → length all ≤ got + space header limit
      → last_chunk (space header limit) (drop got all) ≡ last_chunk (space header limit) all
      → new ≡ laid (room limit) start (last_of m limit (chosen t f path elements))
  reply_last count due fits here =
      let done = last_done (space header limit) (drop got all) (omega (arith, length-drop got all)) in
      let e : drop got all ≡ last_chunk (space header limit) all = sym done ∙ here in
      let q = rw (chosen-bytes a j, j.header_is) at e in
      lies ∙ laid-drop (room limit) old start _ kept.0
      ∙ ap (λ (x : List ℕ). laid (room limit) start (answer t f x (read_request path elements got) limit).reply) same
      ∙ ap (laid (room limit) start) (sent_is a j got count due)
      ∙ rw (j.chosen_is, q) refl

-- ---- all replies: what is joined before a turn are the first of the bytes

pub joined-none : (out : List ℕ) → out ≡ put out 0 []
unfolding put
joined-none out = refl

module _ {space : ℕ} {selected out filled : List ℕ} {got : ℕ} {v : Turn} (start : List ℕ) (fits : length selected ≤ length start)
    (before : out ≡ put start 0 (take got selected)) (due : got < length selected) (brings : Brings space selected got out v filled) where
  brought : (w : Turn) → v ≡ w → Brings space selected got out w filled
  brought w e = rw (← e) brings

  got_length : got ≡ 0 + length (take got selected)
  got_length = omega (arith, length-take-le got selected (omega arith))

  pub turn_more : (n : ℕ) → v ≡ More n → (got < n) × (n < length selected) × (filled ≡ put start 0 (take n selected))
  turn_more n e =
      let b = (brought (More n) e).is in
      let l = length_part selected got (n - got) (omega (arith, b.0, b.1)) in
      let q : got + (n - got) ≡ n = omega (arith, b.0) in (
        b.0,
        b.1,
        put_then _ _ _ 0 _ _ _ before b.2 got_length (omega (arith, b.0, b.1))
            ∙ ap (put start 0) (sym (take-add got (n - got) selected) ∙ ap (λ (k : ℕ). take k selected) q),
      )

  pub turn_last : (n : ℕ) → v ≡ Last n → Written 0 selected start n filled
  turn_last n e =
      let b = (brought (Last n) e).is in
      record {
        length_is = b.0;
        buffer_is =
            put_then _ _ _ 0 _ _ _ before b.1 got_length (omega (arith, length-drop got selected))
            ∙ ap (put start 0) (take-append-drop got selected);
      }

  pub last_fits : (n : ℕ) → v ≡ Last n → length selected ≤ got + space
  last_fits n e = (brought (Last n) e).is.2

  -- the rest that is due after a turn ends with the same chunk as what was due before it
  pub chunk_on : (n : ℕ) → v ≡ More n → 0 < space → last_chunk space (drop n selected) ≡ last_chunk space (drop got selected)
  chunk_on n e p =
      let b = (brought (More n) e).is in
      let l : space < length (drop got selected) = omega (arith, b.3, length-drop got selected) in
      sym (last_more space (drop got selected) p l ∙ rw (drop-drop (rounded space) got selected, ← b.4) refl)
