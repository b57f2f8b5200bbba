-- A read at offset 0, plain or fragmented, is answered with status 0x00 or 0x06 exactly where it is granted: every other way of the dispatcher turns it
-- away, and a granted read selects something, so that offset 0 is not past its end.
-- Assumes nothing.
use mathlib.Core.Path.{◌≡◌, refl}
use mathlib.Core.Logic.{◌⊎◌, inl, inr, ◌↔◌}
use mathlib.Core.Bool.{true, false}
use mathlib.Core.List.{List}
use Prim.Native.Nat.{ℕ}
use native.Mathlib.Omega.{arith}
use lib.Dec.{leb, eqb}
use lib.ListN.{length, get_or}
use borrow.Author.Tests.{le-ltb, lt-leb}
use Rattle.laws.specs.Pick.{either}
use Rattle.laws.proofs.Chain.{by_test, pick_all}
use Rattle.definition.specs.Bytes.{u16_at}
use Rattle.definition.specs.Reply.{Status, general, extended, reply, fail}
use Rattle.definition.specs.Segment.{Segment}
use Rattle.definition.specs.Request.{request, request_of, Object, object, no_object, object_of, is_tag_path}
use Rattle.definition.specs.Tables.{Tables, Flags}
use Rattle.definition.specs.Valid.{valid}
use Rattle.definition.specs.Resolve.{Resolved, found, turned}
use Rattle.definition.specs.Access.{tag_target}
use Rattle.definition.specs.Fragment.{space, status_of, fragment_reply}
use Rattle.definition.specs.Read.{Asked, granted, not_granted, selected_bytes, ask, ask_target, send_from, send, read_at, fields, read_fields}
use Rattle.definition.specs.Answer.{capped, is_read, otherwise, on_target, by_service, plain, answer}
use Rattle.definition.specs.Promises.{Grants, NotRefused, OpeningNotRefused}
use Rattle.definition.proofs.OneRead.{past_objects, read_answer, read_target}
use Rattle.definition.proofs.Replies.{is_done, Refuses, AskedWell, ask_well, TurnsWell, target_well}
use Rattle.definition.proofs.Selected.{granted-some}
use Rattle.definition.proofs.Theorems.{past_entry}

-- ---- a reply that is neither 0x00 nor 0x06

abbrev pub Away : List ℕ → Type 0
Away r = is_done (get_or r 2 0) ≡ false

pub fail_away : (service : ℕ) (s : Status) → Refuses s → Away (fail service s)
unfolding reply
fail_away service (general code) k = k.1
fail_away service (extended code word) k = k.1

pub otherwise_away : (service limit : ℕ) (o : Object) → Away (capped service limit (otherwise service o))
unfolding capped reply
otherwise_away service limit no_object = pick_all Away (leb 4 limit) refl refl
otherwise_away service limit (object c i) =
    by_test (either (eqb c 0x02) (eqb c 0x6C))
    (λ e. rw e (pick_all Away (leb 4 limit) refl refl))
    (λ e. rw e (pick_all Away (leb 4 limit) refl refl))

abbrev pub Done : List ℕ → Type 0
Done r = (get_or r 2 0 ≡ 0x00) ⊎ (get_or r 2 0 ≡ 0x06)

pub done : (r : List ℕ) → Done r → Away r → ⊥
done r (inl e) k = let z : ◌≡◌ {A = ℕ} 0 1 = cc (rw e at k) in omega arith
done r (inr e) k = let z : ◌≡◌ {A = ℕ} 0 1 = cc (rw e at k) in omega arith

sent_done : (service : ℕ) (header chunk : List ℕ) (limit : ℕ) → Done (fragment_reply service header chunk limit)
unfolding fragment_reply reply status_of
sent_done service header chunk limit =
    by_test (leb (length chunk) (space (length header) limit)) (λ e. inl (rw e refl)) (λ e. inr (rw e refl))

-- ---- a read of a tag path: turned away or granted, and a granted one is sent

data Verdict (t : Tables) (f : Flags) (path : List Segment) (elements : ℕ) (r : List ℕ) : Type 0 where
  away : Away r → Verdict t f path elements r
  grants : Grants t f path elements → Verdict t f path elements r

module _ (t : Tables) (f : Flags) (memory message : List ℕ) (limit service : ℕ) (path : List Segment) (body : List ℕ) (elements : ℕ)
    (ok : valid t (length memory) ≡ true) (tag : is_tag_path path ≡ true) (read : is_read service ≡ true)
    (is : request_of message ≡ request service path body) (asks : read_fields service body ≡ fields elements 0) where
  asked : (a : Asked) → ask_target t.structures (tag_target t f false path) elements ≡ a → AskedWell a
      → Verdict t f path elements (send service a memory 0 limit)
  asked (granted s) q k = grants (record { tag_path = tag; selected = s; granted_is = q })
  asked (not_granted status) q k = away (fail_away service status k)

  is_on_target : (x : Resolved) → tag_target t f false path ≡ x → TurnsWell x → Verdict t f path elements (on_target t memory service x body limit).reply
  unfolding read_at
  is_on_target (turned status) e k = away (fail_away service status k)
  is_on_target (found g) e k =
      rw (read_target t memory service g body limit _ read asks)
      (asked (ask t.structures g elements) (rw e refl) (ask_well t.structures g elements))

  target_sent : Grants t f path elements → (x : Resolved) → tag_target t f false path ≡ x → Done (on_target t memory service x body limit).reply
  unfolding read_at send_from
  target_sent g (turned status) e = absurd (let z : ◌≡◌ {A = ℕ} 0 1 = cc (rw e at g.granted_is) in omega arith)
  target_sent g (found target) e =
      let grant : ask t.structures target elements ≡ granted g.selected = rw e at g.granted_is in
      let some = granted-some t f path elements g.selected memory ok g.granted_is in
      rw (read_target t memory service target body limit _ read asks, grant, lt-leb (length (selected_bytes g.selected memory)) 0 some)
      (sent_done service g.selected.header _ limit)

  opened : Done (answer t f memory message limit).reply ↔ Grants t f path elements
  opened =
      rw (read_answer t f memory message limit service path body tag read is)
      (λ d. go d (is_on_target (tag_target t f false path) refl (target_well t f false path)), λ g. target_sent g (tag_target t f false path) refl)
    where
      go : {r : List ℕ} → Done r → Verdict t f path elements r → Grants t f path elements
      go {r} d (away k) = absurd (done r d k)
      go d (grants g) = g

-- ---- past the entry

pub opening_not_refused : OpeningNotRefused
opening_not_refused t f memory message limit buffer r service path body elements tag read is asks e =
    past_entry (λ (x : List ℕ). Done x ↔ Grants t f path elements) t f memory message limit buffer r e
    (λ ok. opened t f memory message limit service path body elements ok tag read is asks)

-- a 0x52 of another path is none of a tag: it is turned away, and not granted
no_tag_lem : (t : Tables) (f : Flags) (memory message : List ℕ) (limit : ℕ) (path : List Segment) (body : List ℕ) → is_tag_path path ≡ false
    → request_of message ≡ request 0x52 path body → Away (answer t f memory message limit).reply
unfolding answer plain by_service
no_tag_lem t f memory message limit path body none is =
    rw (is, past_objects t f memory 0x52 (object_of path) path body limit refl refl, none) (otherwise_away 0x52 limit (object_of path))

pub not-refused : NotRefused
unfolding read_fields
not-refused t f memory message limit buffer r path body is long first e =
    by_test (is_tag_path path)
    (λ tag. opening_not_refused t f memory message limit buffer r 0x52 path body (u16_at body 0) tag refl is
    (rw (le-ltb (length body) 6 long, first)) e)
    (λ none. (
      λ d. absurd (done r d (past_entry Away t f memory message limit buffer r e (λ ok. no_tag_lem t f memory message limit path body none is))),
      λ g. absurd (let z : ◌≡◌ {A = ℕ} 0 1 = cc (rw none at g.tag_path) in omega arith),
    ))
