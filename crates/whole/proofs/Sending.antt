-- A read's request: its bytes piece by piece, and what the dispatcher answers it with. Tag memory stays as it was.
-- Assumes nothing.
use mathlib.Core.Path.{◌≡◌, refl}
use mathlib.Core.Bool.{true, false}
use mathlib.Core.List.{List, [], ◌∷◌, ◌++◌}
use Rattle.std.specs.Prelude.{Option, None, Some}
use Prim.Native.Nat.{ℕ, ◌+◌, ◌*◌, ◌/◌, ◌≤◌, ◌<◌}
use native.Mathlib.Omega.{arith}
use lib.Dec.{ltb}
use lib.ListN.{length, drop, length-append}
use Rattle.laws.specs.Put.{put}
use Rattle.laws.proofs.Chain.{by_test, pick_all, clash}
use Rattle.laws.proofs.Put.{put_then}
use Rattle.definition.specs.Bytes.{le16, le32, part}
use Rattle.definition.specs.Reply.{Answer, answered}
use Rattle.definition.specs.Segment.{Segment, segments}
use Rattle.definition.specs.Request.{Request, with_path, request_of, is_tag_path}
use Rattle.definition.specs.Tables.{Tables, Flags}
use Rattle.definition.specs.Valid.{valid}
use Rattle.definition.specs.Resolve.{Resolved, found, turned}
use Rattle.definition.specs.Access.{tag_target}
use Rattle.definition.specs.Fragment.{fragment_reply}
use Rattle.definition.specs.Read.{Selection, selected_bytes, Asked, granted, not_granted, ask_target}
use Rattle.definition.specs.Answer.{on_target, tag_service, any_request, answer}
use Rattle.definition.proofs.Replies.{plain-all}
use Rattle.cip.specs.Writes.{Written}
use Rattle.continued.specs.Point3.{read_request, Readable}
use Rattle.continued.proofs.Point3.{exact_answer}
use Rattle.whole.specs.Whole.{if_granted, chosen_by, chosen, is_sendable}
use Rattle.whole.specs.Short.{sendable_words, request_length}

-- ---- the bytes

pub request-put : (path : List ℕ) (elements offset words : ℕ) (old a b c d e : List ℕ) → 8 + length path ≤ length old → words ≡ length path / 2
    → a ≡ put old 0 (0x52 ∷ []) → b ≡ put a 1 (words ∷ []) → c ≡ put b 2 path
    → d ≡ put c (2 + length path) (le16 elements) → e ≡ put d (4 + length path) (le32 offset)
    → Written 0 (read_request path elements offset) old (8 + length path) e
unfolding read_request
request-put path elements offset words old a b c d e fits w p q r s u =
    let two = put_then _ _ _ 0 _ _ _ p q refl (omega arith) in
    let three = put_then _ _ _ 0 _ _ _ two r refl (omega arith) in
    let four = put_then _ _ _ 0 _ _ _ three s (omega arith) (omega arith) in
    let five = put_then _ _ _ 0 _ _ _ four u (omega (arith, length-append path (le16 elements))) (omega arith) in
    record { length_is = omega (arith, request_length path elements offset); buffer_is = rw w at five }

-- ---- the answer

module _ (t : Tables) (f : Flags) (m : List ℕ) (limit : ℕ) where
  target_keeps : (r : Resolved) (body : List ℕ) → (on_target t m 0x52 r body limit).memory ≡ m
  target_keeps (found g) body = refl
  target_keeps (turned status) body = refl

  request_keeps : (message : List ℕ) (path : Option (List Segment)) (body : List ℕ) → (any_request t f m message (with_path 0x52 path body) limit).memory ≡ m
  unfolding tag_service
  request_keeps message None body = refl
  request_keeps message (Some path) body =
      plain-all (λ (a : Answer). a.memory ≡ m) t f m 0x52 path body limit (λ r p. refl) (target_keeps (tag_target t f false path) body)

  -- a read changes no tag memory, whatever its path
  pub read_keeps : (path : List ℕ) (elements offset : ℕ) → (answer t f m (read_request path elements offset) limit).memory ≡ m
  unfolding answer request_of read_request
  read_keeps path elements offset =
      let q = 0x52 ∷ length path / 2 ∷ path ++ le16 elements ++ le32 offset in
      let size = 2 * (length path / 2) in
      pick_all (λ (r : Request). (any_request t f m q r limit).memory ≡ m) (ltb (length q) (2 + size)) refl
      (request_keeps q (segments (part q 2 size)) (drop (2 + size) q))

-- ---- a read that selects something

module _ (t : Tables) (f : Flags) (m path : List ℕ) (elements : ℕ) (s : Selection) where
  granted_by : (a : Asked) → if_granted a ≡ Some s → a ≡ granted s
  granted_by (granted x) e = cc e
  granted_by (not_granted status) e = clash (cc e)

  module _ (sendable : is_sendable path ≡ true) (ok : valid t (length m) ≡ true) (count : elements < 65536) where
    readable_by : (o : Option (List Segment)) → segments path ≡ o → chosen_by t f elements o ≡ Some s → Readable t f m path elements s
    readable_by None d e = clash (cc e)
    readable_by (Some l) d e =
        let w = sendable_words path sendable in
        by_test (is_tag_path l)
        (λ b. record {
          tables = ok;
          decoded = l;
          encodes = record { whole_words = omega (arith, w.0); one_byte = w.1; decodes = d };
          tag_path = b;
          count = count;
          grants = granted_by (ask_target t.structures (tag_target t f false l) elements) (rw b at e);
        })
        (λ b. clash (cc (rw b at e)))

    pub readable : chosen t f path elements ≡ Some s → Readable t f m path elements s
    unfolding chosen
    readable = readable_by (segments path) refl

  pub selected-answer : (offset limit : ℕ) → Readable t f m path elements s → offset < length (selected_bytes s m)
      → answer t f m (read_request path elements offset) limit ≡ answered (fragment_reply 0x52 s.header (drop offset (selected_bytes s m)) limit) m
  selected-answer offset limit r l = exact_answer t f path elements s m r offset limit l
