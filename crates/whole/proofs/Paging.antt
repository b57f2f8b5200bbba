-- A page as it lies in the reply buffer, the pages' entries joined one after the other, and what a whole list comes to.
-- Assumes nothing.
use mathlib.Core.Path.{◌≡◌, refl, sym, ap, ◌∙◌}
use mathlib.Core.List.{List, [], ◌∷◌, ◌++◌, append_assoc}
use Rattle.std.specs.Prelude.{Bool, Option, None, Some}
use Prim.Native.Nat.{ℕ, zero, suc, ◌+◌, ◌-◌, ◌≤◌, ◌<◌}
use native.Mathlib.Omega.{arith}
use lib.Dec.{eqb}
use lib.ListN.{length, take, drop, get_or, length-append, length-drop, take-append-drop}
use lib.Seq.{take_all}
use borrow.Author.Tests.{le-leb, lt-leb, eqb-true, eqb-false, eq-eqb, ne_eqb}
use Rattle.laws.specs.Pick.{pick}
use Rattle.laws.specs.Put.{put, laid, KeptFrom}
use Rattle.laws.specs.Sorted.{All}
use Rattle.laws.proofs.Chain.{by_test}
use Rattle.laws.proofs.Put.{put_then, kept_laid, kept_then, kept_less}
use Rattle.laws.proofs.Parts.{laid-drop}
use Rattle.laws.proofs.Sorted.{All-from}
use Rattle.laws.proofs.Until.{until-done, until_more}
use Rattle.definition.specs.Reply.{reply, room}
use Rattle.definition.specs.Tables.{Tables, Flags}
use Rattle.definition.specs.Page.{Entry, id_of, bytes_of, fitting, page_reply}
use Rattle.definition.specs.Symbols.{listing, due}
use Rattle.definition.specs.Answer.{answer}
use Rattle.definition.proofs.Listing.{listing-some}
use Rattle.definition.proofs.Replies.{fitting-fits}
use Rattle.cip.specs.Writes.{Written}
use Rattle.continued.proofs.Entries.{bytes-append, bytes-some, fitting_le, fitting-some, fits_first}
use Rattle.whole.specs.declared.asked.Turn.{Turn}
use Rattle.whole.specs.declared.asked.Turn.TheVariants.{Last, More}
use Rattle.whole.specs.Asked.{Taken, Holds, Joined}
use Rattle.whole.specs.Lists.{list_request, is_askable, longest, behind, last_page}
use Rattle.whole.specs.Turns.{Granted, StartsAt, BringsPage, Paged}
use Rattle.whole.specs.Short.{askable-short}
use Rattle.whole.proofs.Asking.{list_granted}

-- ---- entries and the longest of them

longest-all : (es : List Entry) (m : ℕ) → longest es ≤ m → All (λ e. length e.bytes ≤ m) es
unfolding longest
longest-all [] m h = tt
longest-all (e ∷ es) m h = (omega arith, longest-all es m (omega arith))

longest-drop : (k : ℕ) (es : List Entry) → longest (drop k es) ≤ longest es
unfolding longest
longest-drop zero es = omega arith
longest-drop (suc k) [] = omega arith
longest-drop (suc k) (e ∷ es) = omega (arith, longest-drop k es)

bytes_split : (k : ℕ) (es : List Entry) → bytes_of es ≡ bytes_of (take k es) ++ bytes_of (drop k es)
bytes_split k es = ap bytes_of (sym (take-append-drop k es)) ∙ bytes-append (take k es) (drop k es)

bytes-front : (k : ℕ) (es : List Entry) → length (bytes_of (take k es)) ≤ length (bytes_of es)
bytes-front k es =
    omega (arith, ap (λ (l : List ℕ). length l) (bytes_split k es), length-append (bytes_of (take k es)) (bytes_of (drop k es)))

pub due-some : (t : Tables) (scope : ℕ) (attributes : List ℕ) (start : ℕ) → All (λ e. 0 < length e.bytes) (due t scope attributes start)
unfolding due
due-some t scope attributes start = All-from id_of _ start (listing t scope attributes) (listing-some scope attributes t)

-- just the entries that fit in a space fit in their own length
fitting_own : (es : List Entry) → All (λ e. 0 < length e.bytes) es → (k : ℕ) → k ≤ length es → fitting (length (bytes_of (take k es))) es ≡ k
unfolding fitting bytes_of
fitting_own [] a k h = omega arith
fitting_own (e ∷ es) a zero h = rw (lt-leb (length e.bytes) 0 a.0)
fitting_own (e ∷ es) a (suc k) h =
    let rest = bytes_of (take k es) in
    let l = length-append e.bytes rest in
    let s : length (e.bytes ++ rest) - length e.bytes ≡ length rest = omega (arith, l) in
    rw (le-leb (length e.bytes) (length (e.bytes ++ rest)) (omega (arith, l)), s, fitting_own es a.1 k (omega arith))

-- ---- a page of some entries, each of which fits

module _ (es : List Entry) (limit : ℕ) (room_for : 4 + longest es ≤ limit) where
  abbrev k : ℕ
  k = fitting (limit - 4) es

  abbrev page : List ℕ
  page = page_reply 0x55 es limit

  each_fits : All (λ e. length e.bytes ≤ limit - 4) es
  each_fits = longest-all es (limit - 4) (omega arith)

  page_length : length page ≡ 4 + length (bytes_of (take k es))
  unfolding page_reply reply
  page_length = rw (fits_first (limit - 4) es each_fits) (omega arith)

  page_data : drop 4 page ≡ bytes_of (take k es)
  unfolding page_reply reply
  page_data = rw (fits_first (limit - 4) es each_fits) refl

  page_status : get_or page 2 0 ≡ pick (eqb k (length es)) 0 6
  unfolding page_reply reply
  page_status = rw (fits_first (limit - 4) es each_fits) refl

  module _ (positive : All (λ e. 0 < length e.bytes) es) (got : ℕ) (out filled : List ℕ) (v : Turn) (j : Joined page 4 got out v filled) where
    page_put : filled ≡ put out got (bytes_of (take k es))
    page_put = j.out_is ∙ ap (put out got) page_data

    ending : got + (length page - 4) ≡ got + length (bytes_of (take k es))
    ending = omega (arith, page_length)

    page_brings : Paged es limit got out v filled
    page_brings =
        by_test (eqb k (length es))
        (λ b. let is : v ≡ Last (got + length (bytes_of (take k es))) = j.turn_is ∙ rw (page_status, b, ending) refl in
        let all : take k es ≡ es = take_all k es (omega (arith, eqb-true k (length es) b)) in
        rw is (record {
          is = (
            ap (λ (l : List Entry). got + length (bytes_of l)) all,
            page_put ∙ ap (λ (l : List Entry). put out got (bytes_of l)) all,
            eqb-true k (length es) b,
          );
        }))
        (λ b. let is : v ≡ More (got + length (bytes_of (take k es))) = j.turn_is ∙ rw (page_status, b, ending) refl in
        let few : k < length es = omega (arith, fitting_le (limit - 4) es, eqb-false k (length es) b) in
        let bytes = bytes-some es positive k (fitting-some (limit - 4) es each_fits (omega arith)) (omega arith) in
        rw is (record { is = (refl, omega (arith, bytes), page_put, few) }))

-- ---- the last page: one page more, and the last one

last_more : (limit : ℕ) (es : List Entry) → 4 + longest es ≤ limit → fitting (limit - 4) es < length es → last_page limit es ≡ last_page limit (behind limit es)
last_more limit es g h =
    until_more (λ l. eqb (fitting (limit - 4) l) (length l)) (behind limit) (λ l. 4 + longest l ≤ limit) (λ l. length l)
    (λ l r e. let k = fitting (limit - 4) l in
    let some : 0 < length l = omega (arith, fitting_le (limit - 4) l, eqb-false k (length l) e) in
    let fits = fitting-some (limit - 4) l (longest-all l (limit - 4) (omega arith)) some in
    (omega (arith, longest-drop k l), omega (arith, length-drop k l, fits)))
    (length es) es g (ne_eqb (fitting (limit - 4) es) (length es) (λ e. absurd (omega arith))) (omega arith)

last_done : (limit : ℕ) (es : List Entry) → fitting (limit - 4) es ≡ length es → last_page limit es ≡ es
last_done limit es e =
    until-done (λ l. eqb (fitting (limit - 4) l) (length l)) (behind limit) (length es) es (eq-eqb (fitting (limit - 4) es) (length es) e)

-- ---- all pages: what is joined before a turn and what is left make up all entries, and end with the same page

pub record Joins (all left : List Entry) (limit got : ℕ) (start out : List ℕ) : Type 0 where
  pub passed : List ℕ
  pub whole : bytes_of all ≡ passed ++ bytes_of left
  pub got_is : got ≡ length passed
  pub out_is : out ≡ put start 0 passed
  pub room_for : 4 + longest left ≤ limit
  pub ends : last_page limit left ≡ last_page limit all

pub joins-none : (all : List Entry) (limit : ℕ) (start : List ℕ) → 4 + longest all ≤ limit → Joins all all limit 0 start start
unfolding put
joins-none all limit start h = record { passed = []; whole = refl; got_is = refl; out_is = refl; room_for = h; ends = refl }

module _ {all left : List Entry} {limit got : ℕ} {start out : List ℕ} (j : Joins all left limit got start out)
    (fits : length (bytes_of all) ≤ length start) where
  pub joins_fit : got + length (bytes_of left) ≤ length start
  joins_fit = omega (arith, j.got_is, ap (λ (l : List ℕ). length l) j.whole, length-append j.passed (bytes_of left))

  module _ {filled : List ℕ} {v : Turn} (p : Paged left limit got out v filled) where
    brought : (w : Turn) → v ≡ w → BringsPage left limit got out w filled
    brought w e = rw e at p.is

    joined_more : (bytes : List ℕ) → filled ≡ put out got bytes → length bytes ≤ length (bytes_of left) → filled ≡ put start 0 (j.passed ++ bytes)
    joined_more bytes e h = put_then _ _ _ 0 _ _ _ j.out_is e (omega (arith, j.got_is)) (omega (arith, joins_fit))

    pub joins_further : (n : ℕ) → v ≡ More n → (got < n) × (n ≤ length start)
    joins_further n e =
        let b = brought (More n) e in
        (b.1, omega (arith, b.0, joins_fit, bytes-front (fitting (limit - 4) left) left))

    -- behind a page of so many bytes is what the limit leaves due
    pub joins-behind : (n size : ℕ) → All (λ e. 0 < length e.bytes) left → v ≡ More n → size ≡ 4 + (n - got)
        → (behind size left ≡ behind limit left) × (size ≤ limit)
    joins-behind n size positive e q =
        let b = brought (More n) e in
        let k = fitting (limit - 4) left in
        let s : size - 4 ≡ length (bytes_of (take k left)) = omega (arith, b.0) in
        (rw (s, fitting_own left positive k (fitting_le (limit - 4) left)), omega (arith, b.0, fitting-fits (limit - 4) left, j.room_for))

    pub joins_last : (n : ℕ) → v ≡ Last n → Written 0 (bytes_of all) start n filled
    joins_last n e =
        let b = brought (Last n) e in
        record {
          length_is = omega (arith, b.0, j.got_is, ap (λ (l : List ℕ). length l) j.whole, length-append j.passed (bytes_of left));
          buffer_is = joined_more (bytes_of left) b.1 (omega arith) ∙ ap (put start 0) (sym j.whole);
        }

    pub joins_on : (n : ℕ) (next : List Entry) → v ≡ More n → next ≡ behind limit left → Joins all next limit n start filled
    joins_on n next e q =
        let b = brought (More n) e in
        let k = fitting (limit - 4) left in
        record {
          passed = j.passed ++ bytes_of (take k left);
          whole = rw q (j.whole ∙ ap (λ (l : List ℕ). j.passed ++ l) (bytes_split k left)
              ∙ sym (append_assoc j.passed (bytes_of (take k left)) (bytes_of (drop k left))));
          got_is = omega (arith, b.0, j.got_is, length-append j.passed (bytes_of (take k left)));
          out_is = joined_more (bytes_of (take k left)) b.2 (bytes-front k left);
          room_for = rw q (omega (arith, j.room_for, longest-drop k left));
          ends = rw q (sym (last_more limit left j.room_for b.3) ∙ j.ends);
        }

    -- a page that is not the last leaves something due
    pub joins_left : (n : ℕ) → v ≡ More n → behind limit left ≡ [] → ⊥
    joins_left n e q =
        let b = brought (More n) e in
        omega (arith, b.3, length-drop (fitting (limit - 4) left) left, ap (λ (l : List Entry). length l) q)

    -- the reply buffer: each page is laid over the one before it and what was walked over meanwhile
    module _ (first old new : List ℕ) (kept : KeptFrom (room limit) first old) (holds : room limit ≤ length first)
        (lies : new ≡ laid (room limit) old (page_reply 0x55 left limit)) where
      page_over : KeptFrom (room limit) first new
      page_over =
          let l = page_length left limit j.room_for in
          kept_laid (room limit) first old new kept _ lies (omega (arith, l, fitting-fits (limit - 4) left, j.room_for)) (omega (arith, kept.1))

      pub page_walked : (size : ℕ) (after : List ℕ) → size ≤ limit → KeptFrom size new after → KeptFrom (room limit) first after
      page_walked size after h k = kept_then (room limit) first new after page_over (kept_less size (room limit) new after (omega arith) k)

      pub page_stays : (n : ℕ) → v ≡ Last n → new ≡ laid (room limit) first (page_reply 0x55 (last_page limit all) limit)
      page_stays n e =
          let same : left ≡ last_page limit all = sym (last_done limit left (brought (Last n) e).2) ∙ j.ends in
          lies ∙ laid-drop (room limit) old first _ kept.0 ∙ ap (λ (l : List Entry). laid (room limit) first (page_reply 0x55 l limit)) same

module _ (t : Tables) (scope : ℕ) (attributes : List ℕ) (start : ℕ) (listed left : List Entry) (s : Option ℕ)
    (at : StartsAt t scope attributes start listed left s) where
  pub starts_known : (id : ℕ) → s ≡ Some id → due t scope attributes id ≡ left
  starts_known id q = let a : StartsAt t scope attributes start listed left (Some id) = rw q at at in a.1

  pub starts_nowhere : s ≡ None → left ≡ []
  starts_nowhere q = rw q at at

-- ---- one page that is granted

module _ {t : Tables} (f : Flags) {m program attributes : List ℕ} {limit buffer scope id got : ℕ} {numbers : List ℕ} {all : List Entry}
    {start out : List ℕ} (a : Taken (is_askable program attributes) t m limit buffer) (g : Granted t program attributes scope numbers)
    (j : Joins all (due t scope numbers id) limit got start out) (fits : length (bytes_of all) ≤ length start) (small : id < 4294967296)
    {memory : List ℕ} (same : memory ≡ m) where
  abbrev left : List Entry
  left = due t scope numbers id

  abbrev replied : List ℕ
  replied = (answer t f memory (list_request program attributes id) limit).reply

  reply_is : replied ≡ page_reply 0x55 left limit
  reply_is =
      list_granted t f memory program attributes id limit (askable-short program attributes a.sendable).0 small scope numbers g.scope_is
      g.numbers_are g.accepted

  pub page_holds : Holds replied 4 got (length start)
  page_holds =
      let l = page_length left limit j.room_for in
      let few = bytes-front (fitting (limit - 4) left) left in
      rw reply_is (omega (arith, l), omega (arith, l, few, joins_fit j fits))

  pub page_turn : {filled new : List ℕ} {v : Turn} (old : List ℕ) → Joined replied 4 got out v filled → new ≡ laid (room limit) old replied
      → Paged left limit got out v filled × (new ≡ laid (room limit) old (page_reply 0x55 left limit))
  page_turn {filled} {new} {v} old joins lies = (
    page_brings left limit j.room_for (due-some t scope numbers id) got out filled v (rw reply_is at joins),
    lies ∙ ap (laid (room limit) old) reply_is,
  )

-- the tables in which it may be asked
abbrev pub tables_asked : {can_send : Bool} {t : Tables} {m : List ℕ} {limit buffer : ℕ} → Taken can_send t m limit buffer → Tables
tables_asked {can_send} {t} a = t
