-- Document 02, P3: a read by its fields and one operation is what it was, whatever the service; on a tag path the dispatcher hands every read to it.
-- Assumes nothing.
use mathlib.Core.Path.{◌≡◌, refl}
use mathlib.Core.Bool.{true, false}
use mathlib.Core.List.{List, [], ◌∷◌}
use Prim.Native.Nat.{ℕ}
use lib.Dec.{ltb, leb, eqb}
use lib.ListN.{length, drop}
use borrow.Author.Tests.{eqb-true}
use Rattle.laws.proofs.Chain.{by_test, clash}
use Rattle.laws.proofs.Tests.{both-none, either_true}
use Rattle.definition.specs.Reply.{Status, answered, reply, fail}
use Rattle.definition.specs.Segment.{Segment, port, class, instance, element, attribute, symbol}
use Rattle.definition.specs.Request.{request, request_of, Object, object, no_object, object_of, is_tag_path}
use Rattle.definition.specs.Tables.{Tables, Flags, Row}
use Rattle.definition.specs.Resolve.{Target, Resolved, found, turned}
use Rattle.definition.specs.Access.{tag_target}
use Rattle.definition.specs.Fragment.{fragment_reply}
use Rattle.definition.specs.Read.{Asked, granted, not_granted, selected_bytes, ask, send_from, send, read_at, ReadFields, fields, short, is_fragmented, read_fields, read_by, read_reply}
use Rattle.definition.specs.Answer.{is_read, on_target, tag_service, by_service, by_object, plain, answer}
use Rattle.definition.specs.Promises.{RepliesAsBefore, OneRead, ReadsAlike}

pub replies_as_before : RepliesAsBefore
unfolding read_reply read_fields read_at
replies_as_before structures memory service g body limit =
    by_test (is_fragmented service)
    (λ e. by_test (ltb (length body) 6) (λ l. rw (e, l)) (λ l. rw (e, l)))
    (λ e. by_test (ltb (length body) 2) (λ l. rw (e, l)) (λ l. rw (e, l)))

-- ---- one read

fail_alike : (one other : ℕ) (status : Status) → drop 1 (fail one status) ≡ drop 1 (fail other status)
unfolding reply
fail_alike one other status = refl

send_alike : (one other : ℕ) (a : Asked) (memory : List ℕ) (offset limit : ℕ)
    → drop 1 (send one a memory offset limit) ≡ drop 1 (send other a memory offset limit)
unfolding send_from fragment_reply reply
send_alike one other (granted s) memory offset limit =
    by_test (leb (length (selected_bytes s memory)) offset) (λ e. rw e) (λ e. rw e)
send_alike one other (not_granted status) memory offset limit = fail_alike one other status

pub one_read : OneRead
unfolding read_at
one_read structures memory one other g elements offset limit = send_alike one other (ask structures g elements) memory offset limit

-- ---- reads on a tag path

-- what holds of both services holds of every read
pub by_read : (P : ℕ → Type 0) (service : ℕ) → is_read service ≡ true → P 0x4C → P 0x52 → P service
by_read P service e p q =
    either_true (eqb service 0x4C) (eqb service 0x52) e (λ t. rw (eqb-true service 0x4C t) p) (λ t. rw (eqb-true service 0x52 t) q)

-- a service that no object has as its own goes to the services proper
pub past_objects : (t : Tables) (f : Flags) (memory : List ℕ) (service : ℕ) (o : Object) (path : List Segment) (body : List ℕ) (limit : ℕ)
    → eqb service 0x03 ≡ false → eqb service 0x4C ≡ false
    → by_object t f memory service o path body limit ≡ by_service t f memory service path body limit
past_objects t f memory service no_object path body limit a b = refl
past_objects t f memory service (object c i) path body limit a b =
    rw (a, b, both-none (eqb c 0x6B), both-none (eqb c 0x6C))

-- a tag path names no template, so that a plain read of one is no template's
past_templates : (t : Tables) (f : Flags) (memory : List ℕ) (path : List Segment) (body : List ℕ) (limit : ℕ) → is_tag_path path ≡ true
    → by_object t f memory 0x4C (object_of path) path body limit ≡ by_service t f memory 0x4C path body limit
unfolding is_tag_path
past_templates t f memory [] body limit e = refl
past_templates t f memory (s ∷ []) body limit e = refl
past_templates t f memory (port ∷ (u ∷ rest)) body limit e = refl
past_templates t f memory (instance i ∷ (u ∷ rest)) body limit e = refl
past_templates t f memory (element i ∷ (u ∷ rest)) body limit e = refl
past_templates t f memory (attribute i ∷ (u ∷ rest)) body limit e = refl
past_templates t f memory (symbol name ∷ (u ∷ rest)) body limit e = refl
past_templates t f memory (class c ∷ (instance i ∷ rest)) body limit e =
    by_test (eqb c 0x6B) (λ t. rw (eqb-true c 0x6B t) refl) (λ t. clash (cc (rw t at e)))
past_templates t f memory (class c ∷ (port ∷ rest)) body limit e = refl
past_templates t f memory (class c ∷ (class d ∷ rest)) body limit e = refl
past_templates t f memory (class c ∷ (element i ∷ rest)) body limit e = refl
past_templates t f memory (class c ∷ (attribute i ∷ rest)) body limit e = refl
past_templates t f memory (class c ∷ (symbol name ∷ rest)) body limit e = refl

-- sent alone, it comes to its target
pub read_answer : (t : Tables) (f : Flags) (memory message : List ℕ) (limit service : ℕ) (path : List Segment) (body : List ℕ)
    → is_tag_path path ≡ true → is_read service ≡ true → request_of message ≡ request service path body
    → answer t f memory message limit ≡ on_target t memory service (tag_target t f false path) body limit
unfolding answer plain by_service tag_service
read_answer t f memory message limit service path body tag read =
    by_read
    (λ (s : ℕ). request_of message ≡ request s path body → answer t f memory message limit ≡ on_target t memory s (tag_target t f false path) body limit)
    service read
    (λ is. rw (is, past_templates t f memory path body limit tag, tag))
    (λ is. rw (is, past_objects t f memory 0x52 (object_of path) path body limit refl refl, tag))

-- which reads by its fields
pub read_target : (t : Tables) (memory : List ℕ) (service : ℕ) (g : Target) (body : List ℕ) (limit : ℕ) (wanted : ReadFields)
    → is_read service ≡ true → read_fields service body ≡ wanted
    → on_target t memory service (found g) body limit ≡ answered (read_by t.structures memory service g wanted limit) memory
unfolding read_reply
read_target t memory service g body limit wanted read e = rw (read, e)

by_alike : (structures : List Row) (memory : List ℕ) (one other : ℕ) (g : Target) (wanted : ReadFields) (limit : ℕ)
    → drop 1 (read_by structures memory one g wanted limit) ≡ drop 1 (read_by structures memory other g wanted limit)
by_alike structures memory one other g (fields elements offset) limit = one_read structures memory one other g elements offset limit
by_alike structures memory one other g short limit = fail_alike one other _

pub reads_alike : ReadsAlike
reads_alike t f memory a b limit path service-a service-b body-a body-b tag read_a read-b is-a is_b same =
    rw (
      read_answer t f memory a limit service-a path body-a tag read_a is-a,
      read_answer t f memory b limit service-b path body-b tag read-b is_b,
    )
    (go (tag_target t f false path))
  where
    go : (x : Resolved) → drop 1 (on_target t memory service-a x body-a limit).reply ≡ drop 1 (on_target t memory service-b x body-b limit).reply
    go (turned status) = fail_alike service-a service-b status
    go (found g) =
        rw (read_target t memory service-a g body-a limit _ read_a same, read_target t memory service-b g body-b limit _ read-b refl)
        (by_alike t.structures memory service-a service-b g (read_fields service-b body-b) limit)
