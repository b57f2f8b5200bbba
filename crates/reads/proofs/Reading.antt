-- Reads: the refusals as the code has them, and a fragment's reply by its pieces, laid out.
-- Assumes nothing.
use mathlib.Core.Path.{◌≡◌, sym, ◌∙◌}
use mathlib.Core.Bool.{false}
use mathlib.Core.Logic.{◌≢◌}
use mathlib.Core.List.{List, [], ◌∷◌, ◌++◌, append_assoc}
use Prim.Native.Nat.{ℕ, ◌+◌, ◌*◌, ◌≤◌, ◌<◌}
use native.Mathlib.Omega.{arith}
use lib.Dec.{ltb, eqb}
use lib.ListN.{length, get_or, take, length-append}
use lib.Seq.{length-take-le}
use borrow.Author.Tests.{eq-eqb, ne_eqb, ltb-false, eqb-true}
use Rattle.laws.specs.Put.{put, zeroed}
use Rattle.laws.proofs.Chain.{by_test, pick_all, clash}
use Rattle.laws.proofs.Put.{put_then}
use Rattle.definition.specs.Bytes.{part}
use Rattle.definition.specs.Reply.{Status, general, reply, fail, room}
use Rattle.definition.specs.Tables.{Row, no_bit}
use Rattle.definition.specs.Types.{is_structure, size_in, type_header}
use Rattle.definition.specs.Resolve.{Target}
use Rattle.definition.specs.Fragment.{space, size_of, status_of as fragmentStatus, fragment_reply}
use Rattle.definition.specs.Read.{bit_of, selected_bytes, granted, selection, ask, send_from, send, read_at}
use Rattle.definition.proofs.Cut.{size_le, size_fits}
use Rattle.cip.specs.Statuses.{status_of, has_word}
use Rattle.cip.specs.Writes.{Written, Laid}
use Rattle.cip.proofs.Laws.{finished}
use Rattle.cip.proofs.Capped.{reply-body, header_four}
use Rattle.reads.specs.Reading.{grant_of, asked_by, header_size}
use Rattle.std.specs.Prelude.{Result, Ok, Err}
use Rattle.cip.specs.declared.Status.{Status as CodeStatus}

-- ---- what is asked

pub ask_by : (structures : List Row) (g : Target) (elements : ℕ)
    → ask structures g elements ≡ asked_by (selection structures g elements) (grant_of g.bit g.count elements)
unfolding ask
ask_by structures g elements =
    by_test (eqb g.bit no_bit)
    (λ e. by_test (eqb elements 0) (λ z. simp (e, z)) (λ z. by_test (ltb g.count elements) (λ l. simp (e, z, l)) (λ l. simp (e, z, l))))
    (λ e. by_test (eqb elements 1) (λ o. simp (e, o)) (λ o. simp (e, o)))

-- a granted read asks for no more elements than there are
pub granted-few : (bit count elements : ℕ) (v : Result (Unit {0}) CodeStatus) → 0 < count → v ≡ grant_of bit count elements → v ≡ Ok tt → elements ≤ count
granted-few bit count elements v h p q =
    let e = sym p ∙ q in
    by_test (eqb bit no_bit)
    (λ b. by_test (eqb elements 0) (λ z. omega (arith, eqb-true elements 0 z))
    (λ z. by_test (ltb count elements) (λ l. clash (cc (rw (b, z, l) at e))) (λ l. ltb-false count elements l)))
    (λ b. by_test (eqb elements 1) (λ o. omega (arith, eqb-true elements 1 o)) (λ o. clash (cc (rw (b, o) at e))))

module _ (structures : List Row) (memory : List ℕ) (service : ℕ) (g : Target) (elements offset limit : ℕ) (old z : List ℕ) (r : ℕ)
    (v : Result (Unit {0}) CodeStatus)
    (asked : v ≡ grant_of g.bit g.count elements) where
  read_by : read_at structures memory service g elements offset limit ≡ send service (asked_by (selection structures g elements) v) memory offset limit
  unfolding read_at
  read_by = rw (ask_by structures g elements, ← asked)

  pub read_granted : v ≡ Ok tt → Laid limit (send service (granted (selection structures g elements)) memory offset limit) old r z
      → Laid limit (read_at structures memory service g elements offset limit) old r z
  read_granted e d = rw (read_by, e) d

  pub read_refused : (s : CodeStatus) → v ≡ Err s → Laid limit (fail service (status_of s)) old r z
      → Laid limit (read_at structures memory service g elements offset limit) old r z
  read_refused s e d = rw (read_by, e) d

-- ---- a fragment

pub header-few : (type : ℕ) → header_size type ≤ 4
header-few type = pick_all (λ (n : ℕ). n ≤ 4) (is_structure type) (omega arith) (omega arith)

pub header-length : (structures : List Row) (type : ℕ) → length (type_header structures type) ≡ header_size type
unfolding type_header
header-length structures type = by_test (is_structure type) (λ e. rw e) (λ e. rw e)

pub ruleset headers = (header_four, header-length, header-few)

-- a reply's header, a type header and the bytes behind it, written one after the other
pub fragment_put : (service type used h : ℕ) (s : Status) (structures : List Row) (bytes old x y z : List ℕ) → has_word s ≡ false
    → 4 + header_size type + length bytes ≤ length old
    → Written 0 (reply service s []) old used x → Written used (type_header structures type) x h y → z ≡ put y (used + h) bytes
    → Written 0 (reply service s (type_header structures type ++ bytes)) old (used + h + length bytes) z
fragment_put service type used h s structures bytes old x y z plain fits a b d =
    let four = header_four service s plain in
    let few = header-length structures type in
    let u = a.length_is in
    let v = b.length_is in
    let two = put_then _ _ _ 0 _ _ _ a.buffer_is b.buffer_is (omega arith) (omega arith) in
    let l = length-append (reply service s []) (type_header structures type) in
    let three = put_then _ _ _ 0 _ _ _ two d (omega arith) (omega arith) in
    let e : (reply service s [] ++ type_header structures type) ++ bytes ≡ reply service s (type_header structures type ++ bytes) =
    append_assoc (reply service s []) (type_header structures type) bytes ∙ reply-body service s (type_header structures type ++ bytes) in
    let m = length-append (reply service s [] ++ type_header structures type) bytes in
    rw (← e) (record { length_is = omega arith; buffer_is = three })

-- so much of a chunk is sent as fits behind a type header
module _ (type limit : ℕ) (chunk : List ℕ) (h s n : ℕ) (header : h ≡ header_size type) (fits : s ≡ space h limit) (cut : n ≡ size_of (length chunk) s) where
  pub sent-length : n ≡ length (take n chunk)
  sent-length = sym (length-take-le n chunk (omega (arith, size_le (length chunk) s)))

  pub chunk_fits : (m : ℕ) → room limit ≤ m → 4 + header_size type + length (take n chunk) ≤ m
  chunk_fits m k = omega (arith, sent-length, header-few type, size_fits (length chunk) s)

  module _ (service : ℕ) (structures : List Row) (status : Status) (said : status ≡ general (fragmentStatus (length chunk) s)) where
    abbrev whole : List ℕ
    whole = reply service status (type_header structures type ++ take n chunk)

    whole_fits : length whole ≤ room limit
    unfolding reply
    whole_fits =
        let sent = chunk_fits (room limit) (omega arith) in
        let both = length-append (type_header structures type) (take n chunk) in
        rw said (omega (arith, header-length structures type))

    pub chunk_used : (old x : List ℕ) (used : ℕ) → Written 0 whole old used x → used ≤ room limit
    chunk_used old x used w = omega (arith, w.length_is, whole_fits)

    pub chunk_sent : (old x z : List ℕ) (used r : ℕ) → room limit ≤ length old → Written 0 whole old used x → r ≡ used → z ≡ zeroed used (room limit) x
        → Laid limit (fragment_reply service (type_header structures type) chunk limit) old r z
    unfolding fragment_reply
    chunk_sent old x z used r k w e f =
        rw (header-length structures type, ← header, ← fits, ← cut, ← said) (finished _ _ _ _ _ _ _ w e f whole_fits k)

-- ---- what is selected

module _ (structures : List Row) (memory : List ℕ) (g : Target) (elements service offset limit r : ℕ) (old z : List ℕ) where
  pub bit_sent : (v : ℕ) → g.bit ≢ no_bit → v ≡ bit_of (get_or memory g.start 0) g.bit
      → Laid limit (send_from service (type_header structures g.type) (v ∷ []) offset limit) old r z
      → Laid limit (send service (granted (selection structures g elements)) memory offset limit) old r z
  unfolding selected_bytes selection
  bit_sent v b e d = rw (ne_eqb _ _ b, ← e) d

  pub part_sent : (size : ℕ) → g.bit ≡ no_bit → size ≡ size_in structures g.type
      → Laid limit (send_from service (type_header structures g.type) (part memory g.start (elements * size)) offset limit) old r z
      → Laid limit (send service (granted (selection structures g elements)) memory offset limit) old r z
  unfolding selected_bytes selection
  part_sent size b e d = rw (eq-eqb _ _ b, ← e) d
