-- Point 3 for the definition itself: continued reads and continued pages, by `Talk` and `Listing`; first in any bytes, then in exact ones.
-- Assumes nothing.
use mathlib.Core.Path.{◌≡◌, refl, sym, ap, ◌∙◌}
use mathlib.Core.Bool.{true, false}
use mathlib.Core.List.{List, [], append-nil}
use Prim.Native.Nat.{ℕ, ◌≤◌, ◌<◌}
use native.Mathlib.Omega.{arith}
use lib.Dec.{ltb, leb, eqb}
use lib.ListN.{length, drop, length-take, length-drop}
use borrow.Author.Tests.{leb-true, lt-leb}
use Rattle.laws.specs.Tests.{every}
use Rattle.laws.proofs.Chain.{by_test, pick_all, clash}
use Rattle.laws.proofs.Tests.{both-none, among}
use Rattle.definition.specs.Reply.{answered}
use Rattle.definition.specs.Segment.{Segment}
use Rattle.definition.specs.Request.{object_of}
use Rattle.definition.specs.Tables.{Tables, Flags, no_bit}
use Rattle.definition.specs.Valid.{t1, valid}
use Rattle.definition.specs.Resolve.{Resolved, found, turned}
use Rattle.definition.specs.Access.{tag_target}
use Rattle.definition.specs.Read.{Selection, selected_bytes, granted, ask_target, send_from, read_at, fields, read_fields}
use Rattle.definition.specs.Fragment.{fragment_reply}
use Rattle.definition.specs.Page.{page_reply}
use Rattle.definition.specs.Symbols.{listing, due, is_listed, list_symbols}
use Rattle.definition.specs.Answer.{is_read, on_target, by_service, plain, answer}
use Rattle.definition.specs.Entry.{Entered, replied, lay, entry}
use Rattle.definition.specs.Promises.{Grants}
use Rattle.definition.proofs.Enters.{Ways, stopped, taken, enters}
use Rattle.definition.proofs.OneRead.{past_objects, read_answer, read_target}
use Rattle.definition.proofs.Listing.{listing_sorted, listing-some}
use Rattle.definition.proofs.Selected.{granted-some}
use Rattle.definition.proofs.Stored.{memory_keeps_its_length}
use Rattle.continued.specs.Reads.{Sent, Turn, Replied}
use Rattle.continued.specs.Point3.{Memory, respond, hears, leaves, Event, message, changed, steps, Between, Asks, PlainAt0, Reads, FairReads}
use Rattle.continued.specs.Point3.{ReadsDeliver, ContinuedReads, AsksPage, Pages, FairList, PagesDeliver, ContinuedPages, read_request, Readable}
use Rattle.continued.specs.Point3.{ExactReads, ExactReadsDeliver, page_request, ExactPages, ExactPagesDeliver}
use Rattle.continued.proofs.Talk.{SendsFragment, reads_deliver}
use Rattle.continued.proofs.Listing.{pages_deliver}
use Rattle.continued.proofs.Requests.{service_first, exact_asks, exact_page}

-- ---- past the entry: a reply is the dispatcher's, and a refusal leaves the memory

abbrev Enters : Memory → (came e : Entered) → Type 0
Enters m came e = (Replied e.outcome → e ≡ came) × ((Replied e.outcome → ⊥) → e.memory ≡ m)

entered : (t : Tables) (f : Flags) (s : Sent) (m : Memory)
    → Enters m (lay s.limit s.buffer (answer t f m s.request s.limit)) (respond t f s m)
unfolding respond
entered t f s m = go (enters t f m s.request s.limit s.buffer)
  where
    go : Ways t f m s.request s.limit s.buffer
        → Enters m (lay s.limit s.buffer (answer t f m s.request s.limit)) (entry t f m s.request s.limit s.buffer)
    go (stopped k low high e) = rw e (λ r. absurd r, λ n. refl)
    go (taken a b c d e) = rw e (λ r. refl, λ n. absurd (n tt))

-- ---- valid tables stay valid: every turn leaves a memory of the same length

abbrev Fits : Tables → Memory → Type 0
Fits t m = valid t (length m) ≡ true

keeps : (t : Tables) (f : Flags) (s : Sent) (m : Memory) → Fits t m → Fits t (leaves t f s m)
unfolding respond
keeps t f s m v = rw (memory_keeps_its_length t f m s.request s.limit s.buffer) v

stays : (t : Tables) (f : Flags) (e : Event) (m : Memory) → Between e m → Fits t m → Fits t (steps t f e m)
stays t f (message s) m b v = keeps t f s m v
stays t f (changed left) m b v = rw b v

-- ---- reads

-- T1: what is selected is at most 65,536 bytes
pub selected-few : (t : Tables) (s : Selection) (m : Memory) → valid t (length m) ≡ true → length (selected_bytes s m) ≤ 65536
unfolding selected_bytes valid t1
selected-few t s m v =
    let few : length m ≤ 65536 = leb-true _ _ (among (leb (length m) 65536) _ v (λ e. simp (e, both-none))) in
    pick_all (λ (l : List ℕ). length l ≤ 65536) (eqb s.bit no_bit) (simp (length-take, length-drop) (omega arith)) (omega arith)

-- a granted read, at an offset below the number of selected bytes, whatever its service
granted-reply : (t : Tables) (m : Memory) (service : ℕ) (x : Resolved) (body : List ℕ) (elements offset limit : ℕ) (s : Selection)
    → is_read service ≡ true → read_fields service body ≡ fields elements offset → ask_target t.structures x elements ≡ granted s
    → offset < length (selected_bytes s m)
    → on_target t m service x body limit ≡ answered (fragment_reply service s.header (drop offset (selected_bytes s m)) limit) m
unfolding read_at send_from
granted-reply t m service (turned status) body elements offset limit s read asks e l = absurd (let z : ◌≡◌ {A = ℕ} 0 1 = cc in omega arith)
granted-reply t m service (found g) body elements offset limit s read asks e l =
    rw (read_target t m service g body limit _ read asks, e, lt-leb (length (selected_bytes s m)) offset l)

module _ (t : Tables) (f : Flags) (path : List Segment) (elements : ℕ) (g : Grants t f path elements) where
  pub answer_asked : (m : Memory) (x : List ℕ) (limit offset : ℕ) (q : Asks path elements x offset) → offset < length (selected_bytes g.selected m)
      → answer t f m x limit ≡ answered (fragment_reply q.service g.selected.header (drop offset (selected_bytes g.selected m)) limit) m
  answer_asked m x limit offset q l =
      rw (read_answer t f m x limit q.service path q.body g.tag_path q.reads q.is)
      (granted-reply t m q.service (tag_target t f false path) q.body elements offset limit g.selected q.reads q.fields_are g.granted_is l)

  read_law : (x : Sent) (m : Memory) (offset : ℕ) → Asks path elements x.request offset → offset < length (selected_bytes g.selected m)
      → Replied (hears t f x m)
      → SendsFragment (respond t f x m).outcome g.selected.header (drop offset (selected_bytes g.selected m)) x.limit
      × ((respond t f x m).memory ≡ m)
  read_law x m offset q l p = rw ((entered t f x m).0 p, answer_asked m x.request x.limit offset q l) ((q.service, refl), refl)

  -- of any notion of a read that is such a read where something is selected
  reads_of : (reads : Memory → Sent → ℕ → Type 0)
      → ((x : Sent) (m : Memory) (offset : ℕ) → Fits t m → reads m x offset → offset < length (selected_bytes g.selected m)
      → Asks path elements x.request offset)
      → (m : Memory) (turns : List (Turn Event)) → valid t (length m) ≡ true → FairReads t f reads g.selected m turns
      → ReadsDeliver t f g.selected m turns
  reads_of reads asks m turns v =
      reads_deliver (hears t f) (leaves t f) (steps t f) reads (selected_bytes g.selected) g.selected.header (Fits t) Between
      (keeps t f) (stays t f) (λ x m offset v q l. read_law x m offset (asks x m offset v q l) l) (λ x m. (entered t f x m).1)
      m turns v (granted-some t f path elements g.selected m v g.granted_is)

pub plain_at_0 : PlainAt0
unfolding read_fields
plain_at_0 path elements x offset a e = go (rw e at a.fields_are)
  where
    go : read_fields 0x4C a.body ≡ fields elements offset → offset ≡ 0
    go q = by_test (ltb (length a.body) 2) (λ t. clash (cc (rw t at q))) (λ t. let s = rw t at q in cc)

pub continued_reads : ContinuedReads
continued_reads t f path elements g = reads_of t f path elements g (Reads path elements) (λ x m offset v q l. q)

module _ (t : Tables) (f : Flags) (path : List ℕ) (elements : ℕ) (s : Selection) (m : Memory) (r : Readable t f m path elements s) where
  granted_exact : Grants t f r.decoded elements
  granted_exact = record { tag_path = r.tag_path; selected = s; granted_is = r.grants }

  asks_exact : (offset : ℕ) → offset ≤ 65536 → Asks r.decoded elements (read_request path elements offset) offset
  asks_exact offset low =
      rw (← append-nil (read_request path elements offset)) (exact_asks path r.decoded elements offset [] r.encodes r.count (omega arith))

  pub exact_answer : (offset limit : ℕ) → offset < length (selected_bytes s m)
      → answer t f m (read_request path elements offset) limit ≡ answered (fragment_reply 0x52 s.header (drop offset (selected_bytes s m)) limit) m
  unfolding granted_exact read_request
  exact_answer offset limit l =
      let q = asks_exact offset (omega (arith, selected-few t s m r.tables)) in
      answer_asked t f r.decoded elements granted_exact m (read_request path elements offset) limit offset q l
      ∙ ap (λ (service : ℕ). answered (fragment_reply service s.header (drop offset (selected_bytes s m)) limit) m)
      (sym (service_first (read_request path elements offset) q.service r.decoded q.body q.is))

pub exact_reads : ExactReadsDeliver
unfolding granted_exact
exact_reads t f path elements s m turns r =
    reads_of t f r.decoded elements (granted_exact t f path elements s m r) (ExactReads path elements)
    (λ x n offset v q l. rw q (asks_exact t f path elements s m r offset (omega (arith, selected-few t s n v)))) m turns r.tables

-- ---- pages

module _ (t : Tables) (f : Flags) (scope : ℕ) (attributes : List ℕ) (accepted : every is_listed attributes ≡ true) where
  page_law : (x : Sent) (m : Memory) (id : ℕ) → AsksPage t scope attributes x.request id → Replied (hears t f x m)
      → (respond t f x m).outcome ≡ replied (page_reply 0x55 (due t scope attributes id) x.limit)
  unfolding list_symbols answer plain by_service
  page_law x m id p y =
      rw (
        (entered t f x m).0 y,
        p.is,
        past_objects t f m 0x55 (object_of p.path) p.path p.body x.limit refl refl,
        p.starts,
        p.list_is,
        accepted,
      )

  pages_of : (pages : Memory → Sent → ℕ → Type 0) → ((x : Sent) (m : Memory) (id : ℕ) → pages m x id → AsksPage t scope attributes x.request id)
      → (first : ℕ) (m : Memory) (turns : List (Turn Event)) → valid t (length m) ≡ true
      → FairList t f pages scope attributes first m turns → PagesDeliver t f scope attributes first m turns
  unfolding due
  pages_of pages asks first m turns v =
      pages_deliver (hears t f) (leaves t f) (steps t f) pages (λ m. listing t scope attributes) 0x55 first (Fits t) Between
      (keeps t f) (stays t f) (λ m v. listing_sorted scope attributes t (length m) v) (λ m v. listing-some scope attributes t)
      (λ x m id v q. page_law x m id (asks x m id q)) (λ x m v. refl) m turns v

pub continued_pages : ContinuedPages
continued_pages t f scope attributes first m turns v accepted = pages_of t f scope attributes accepted (Pages t scope attributes)
    (λ x m id q. q) first m turns v

pub exact_pages : ExactPagesDeliver
exact_pages t f scope attributes first m turns r =
    pages_of t f scope attributes r.accepted (ExactPages t scope attributes)
    (λ x m id q. rw (q.2, ← append-nil (page_request q.0 attributes)) (exact_page t scope attributes q.0 id [] r.count r.accepted q.1)) first
    m turns r.tables
