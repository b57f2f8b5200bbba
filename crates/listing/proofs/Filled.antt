-- A page entry by entry, as far as entries fit, and its header written when all of them stand.
-- Assumes nothing.
use Rattle.std.proofs.Common.{◌≡◌, ℕ, ◌+◌, ◌-◌, ◌<◌, ◌≤◌, max, Bool, true, false, eqb, leb, List, [], ◌∷◌, ◌++◌, length, take, drop, sym, refl, ap, ◌∙◌}
use Rattle.std.proofs.Common.{append_assoc, append-nil, arith, length-append, length-take-le, take_at, drop_at, le-ltb, lt-ltb, ne_eqb, le-leb, leb-false}
use Rattle.std.proofs.Common.{leb-true}
use lib.Dec.{eqb-zero-suc, eqb-suc-suc}
use lib.Seq.{take-append-add}
use borrow.Author.Tests.{lt-leb}
use Rattle.laws.specs.Pick.{pick}
use Rattle.laws.specs.Put.{put, zeroed, laid}
use Rattle.laws.proofs.Chain.{by_test}
use Rattle.laws.proofs.Put.{put-none, put_then, drop_put_past, zeroed-laid, length_part}
use Rattle.definition.specs.Bytes.{part}
use Rattle.definition.specs.Reply.{Status, general, reply, fail, room, success, partial, too_large}
use Rattle.definition.specs.Tables.{Tables}
use Rattle.definition.specs.Page.{Entry, bytes_of, fitting, first_unfit, page_reply}
use Rattle.definition.specs.Symbols.{due}
use Rattle.cip.specs.Statuses.{has_word}
use Rattle.cip.specs.Writes.{Written, Laid}
use Rattle.listing.specs.Entries.{stopped, Stepped, more, full, done, Further}
use Rattle.listing.specs.declared.pages.Walk.{Walk}
use Rattle.listing.specs.declared.pages.Step.{Step}
use Rattle.listing.specs.declared.pages.Step.TheVariants.{More, Full, Done}
use Rattle.cip.proofs.Capped.{reply-body, header_four, reply_long}

-- ---- the reply of a page that has some entries already: `first` says that it has none yet

unfoldable pub filled : (service : ℕ) (first : Bool) (space : ℕ) (bytes : List ℕ) → List Entry → List ℕ
filled service first space bytes [] = reply service success bytes
filled service first space bytes (e ∷ es) =
    pick (leb (length e.bytes) space) (filled service false (space - length e.bytes) (bytes ++ e.bytes) es)
    (pick first (fail service too_large) (reply service partial bytes))

module _ (service : ℕ) where
  -- past its first entry a page ends with what fits
  filled_on : (es : List Entry) (space : ℕ) (bytes : List ℕ)
      → filled service false space bytes es
      ≡ reply service (general (pick (eqb (fitting space es) (length es)) 0x00 0x06)) (bytes ++ bytes_of (take (fitting space es) es))
  unfolding filled fitting bytes_of
  filled_on [] space bytes = rw append-nil
  filled_on (e ∷ es) space bytes =
      by_test (leb (length e.bytes) space)
      (λ t. rw t (filled_on es (space - length e.bytes) (bytes ++ e.bytes) ∙ rw (append_assoc, eqb-suc-suc)))
      (λ t. rw (t, append-nil, eqb-zero-suc))

  pub filled_all : (limit : ℕ) (es : List Entry) → filled service true (limit - 4) [] es ≡ page_reply service es limit
  unfolding filled fitting first_unfit bytes_of page_reply
  filled_all limit [] = refl
  filled_all limit (e ∷ es) =
      by_test (leb (length e.bytes) (limit - 4))
      (λ t. rw (t, le-ltb (limit - 4) (length e.bytes) (leb-true (length e.bytes) (limit - 4) t), eqb-suc-suc)
      (filled_on es (limit - 4 - length e.bytes) e.bytes))
      (λ t. rw (t, lt-ltb (limit - 4) (length e.bytes) (leb-false (length e.bytes) (limit - 4) t)))

  module _ (end used : ℕ) (bytes : List ℕ) where
    filled_more : (e : Entry) (es : List Entry) (u : ℕ) → 4 ≤ used → used + 4 ≤ u → u ≡ used + length e.bytes → u ≤ end
        → filled service (eqb used 4) (end - used) bytes (e ∷ es) ≡ filled service (eqb u 4) (end - u) (bytes ++ e.bytes) es
    unfolding filled
    filled_more e es u l k h f =
        let s : end - used - length e.bytes ≡ end - u = omega arith in
        rw (le-leb (length e.bytes) (end - used) (omega arith), s, ne_eqb u 4 (λ q. omega arith))

    filled_full : (e : Entry) (es : List Entry) → used ≤ end → end < used + length e.bytes
        → filled service (eqb used 4) (end - used) bytes (e ∷ es) ≡ pick (eqb used 4) (fail service too_large) (reply service partial bytes)
    unfolding filled
    filled_full e es l h = rw (lt-leb (length e.bytes) (end - used) (omega arith))

    filled_done : filled service (eqb used 4) (end - used) bytes [] ≡ reply service success bytes
    unfolding filled
    filled_done = refl

-- ---- a reply whose data stand behind the place of its header

-- the data by themselves
part_put : (old x bytes : List ℕ) (used : ℕ) → x ≡ put old 4 bytes → used ≡ 4 + length bytes → used ≤ length old → part x 4 (used - 4) ≡ bytes
unfolding put
part_put old x bytes used e u h =
    let d = drop_at (take 4 old) (bytes ++ drop (4 + length bytes) old) 4 (length-take-le 4 old (omega arith)) in
    let n : length bytes ≡ used - 4 = omega arith in
    rw (e, append_assoc, d) (take_at bytes _ (used - 4) n)

-- what is laid over them is laid over what stood there before
laid-over : (limit : ℕ) (old x ys bytes z : List ℕ) (r : ℕ) → x ≡ put old 4 bytes → 4 + length bytes ≤ room limit → room limit ≤ length old
    → Laid limit ys x r z → Laid limit ys old r z
unfolding laid
laid-over limit old x ys bytes z r e h k w = record {
  length_is = w.length_is;
  buffer_is = w.buffer_is ∙ rw (e, drop_put_past old 4 bytes (omega arith) (room limit) h);
}

take-header : (x header : List ℕ) (n : ℕ) → length header ≡ 4 → take (4 + n) (put x 0 header) ≡ header ++ part x 4 n
unfolding put
take-header x header n e =
    let z : 0 + length header ≡ 4 = omega arith in
    ap (λ (k : ℕ). take (k + n) (header ++ drop (0 + length header) x)) (sym e) ∙ take-append-add header (drop (0 + length header) x) n
    ∙ ap (λ (k : ℕ). header ++ take n (drop k x)) z

module _ (limit service used : ℕ) (s : Status) (x : List ℕ) (short : has_word s ≡ false) (from : 4 ≤ used) (fits : used ≤ room limit)
    (holds : room limit ≤ length x) where
  header-before : (y : List ℕ) → y ≡ put x 0 (reply service s []) → take used y ≡ reply service s (part x 4 (used - 4))
  header-before y e =
      let n : used ≡ 4 + (used - 4) = omega arith in
      ap (λ (k : ℕ). take k y) n ∙ ap (λ (l : List ℕ). take (4 + (used - 4)) l) e ∙ take-header x (reply service s []) (used - 4) (header_four service s short)
      ∙ reply-body service s _

  pub closed : (y z : List ℕ) (h r : ℕ) → Written 0 (reply service s []) x h y → r ≡ used → z ≡ zeroed used (room limit) y
      → Laid limit (reply service s (part x 4 (used - 4))) x r z
  closed y z h r w e f =
      let long : length (reply service s (part x 4 (used - 4))) ≡ used =
      omega (arith, reply_long service s (part x 4 (used - 4)) short, length_part x 4 (used - 4) (omega arith)) in
      let past = drop_put_past x 0 (reply service s []) (omega (arith, header_four service s short)) (room limit)
      (omega (arith, header_four service s short)) in
      record {
        length_is = e ∙ sym long;
        buffer_is = f ∙ zeroed-laid (room limit) x y _ used long (header-before y w.buffer_is) (rw w.buffer_is past);
      }

-- ---- a buffer with the entries of a page, from position 4 on

pub record Filled (t : Tables) (scope : ℕ) (attributes : List ℕ) (start service limit end : ℕ) (old : List ℕ) (used bound : ℕ) (new : List ℕ) : Type 0 where
  pub bytes : List ℕ
  pub used_is : used ≡ 4 + length bytes
  pub buffer_is : new ≡ put old 4 bytes
  pub goes_on : filled service (eqb used 4) (end - used) bytes (due t scope attributes bound) ≡ page_reply service (due t scope attributes start) limit

module _ (t : Tables) (scope : ℕ) (attributes : List ℕ) (start service limit end : ℕ) (old : List ℕ) where
  abbrev Fills : (used bound : ℕ) → List ℕ → Type 0
  Fills used bound new = Filled t scope attributes start service limit end old used bound new

  abbrev Answers : (r : ℕ) (z : List ℕ) → Type 0
  Answers r z = Laid limit (page_reply service (due t scope attributes start) limit) old r z

  pub filled_none : end ≡ max limit 4 → Fills 4 start old
  filled_none e =
      let s : end - 4 ≡ limit - 4 = omega arith in
      record { bytes = []; used_is = refl; buffer_is = sym (put-none old 4); goes_on = rw s (filled_all service limit _) }

  module _ (used bound : ℕ) (x y : List ℕ) where
    abbrev Steps : Step → Type 0
    Steps r = Stepped t scope attributes end used bound x r y

    -- the rest of the page, by what is due
    rest_is : (f : Fills used bound x) (es : List Entry) (ys : List ℕ) → due t scope attributes bound ≡ es
        → filled service (eqb used 4) (end - used) f.bytes es ≡ ys → ys ≡ page_reply service (due t scope attributes start) limit
    rest_is f es ys d e = sym e ∙ ap (λ (l : List Entry). filled service (eqb used 4) (end - used) f.bytes l) (sym d) ∙ f.goes_on

    added : {w : Walk} → Fills used bound x → used + 4 ≤ w.used → end ≤ length old → Steps (More w) → Fills w.used w.bound y
    added {w} f k h (more e q d a l p) = record {
      bytes = f.bytes ++ e.bytes;
      used_is = simp length-append (omega arith);
      buffer_is = put_then old x y 4 f.bytes used e.bytes f.buffer_is p f.used_is (omega arith);
      goes_on = rest_is f _ _ d (filled_more service end used f.bytes e (due t scope attributes w.bound) w.used (omega arith) k a l);
    }

    module _ (r : ℕ) (z : List ℕ) (f : Fills used bound x) (inside : used ≤ room limit) (holds : room limit ≤ length old) where
      -- a reply that is laid over the entries
      answered : (ys : List ℕ) → ys ≡ page_reply service (due t scope attributes start) limit → Laid limit ys x r z → Answers r z
      answered ys e w = rw e at (laid-over limit old x ys f.bytes z r f.buffer_is (omega arith) holds w)

      data_are : part x 4 (used - 4) ≡ f.bytes
      data_are = part_put old x f.bytes used f.buffer_is f.used_is (omega arith)

      stopped_full : used ≤ end → Steps Full → Laid limit (stopped service used y) y r z → Answers r z
      stopped_full h (full e es d a p) w = answered _ (rest_is f _ _ d (filled_full service end used f.bytes e es h a)) (rw (p, data_are) at w)

      ended : Steps Done → Laid limit (reply service success (part y 4 (used - 4))) y r z → Answers r z
      ended (done d p) w = answered _ (rest_is f _ _ d (filled_done service end used f.bytes)) (rw (p, data_are) at w)

    module _ (s : Step) (f : Fills used bound x) (step : Steps s) where
      pub entry_added : {w : Walk} → s ≡ More w → used + 4 ≤ w.used → end ≤ length old → Fills w.used w.bound y
      entry_added q k h = added f k h (rw q at step)

      pub page_stopped : {r : ℕ} {z : List ℕ} → s ≡ Full → used ≤ end → end ≡ max limit 4 → room limit ≤ length old
          → Laid limit (stopped service used y) y r z → Answers r z
      page_stopped q h e k w = stopped_full _ _ f (omega arith) k h (rw q at step) w

      pub page_ended : {r : ℕ} {z : List ℕ} → s ≡ Done → used ≤ end → end ≡ max limit 4 → room limit ≤ length old
          → Laid limit (reply service success (part y 4 (used - 4))) y r z → Answers r z
      page_ended q h e k w = ended _ _ f (omega arith) k (rw q at step) w

pub further_more : (used limit : ℕ) {w : Walk} (s : Step) → s ≡ More w → Further used limit s → (used + 4 ≤ w.used) × (w.used ≤ limit)
further_more used limit s q f = rw q at f
