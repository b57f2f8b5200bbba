-- A page's request: its bytes piece by piece, the segments of its path, and what the dispatcher answers it with.
-- Assumes nothing.
use mathlib.Core.Path.{◌≡◌, refl, sym, ap, ◌∙◌}
use mathlib.Core.Bool.{true}
use mathlib.Core.List.{List, [], ◌∷◌, ◌++◌, append_assoc, append-nil}
use Rattle.std.specs.Prelude.{Option, None, Some}
use Prim.Native.Nat.{ℕ, suc, ◌+◌, ◌/◌, ◌%◌, ◌≤◌, ◌<◌}
use native.Mathlib.Omega.{arith}
use lib.Dec.{eqb}
use lib.ListN.{length, get_or, length-append}
use lib.Seq.{take-append_seam, get_or-append-add}
use borrow.Author.Tests.{le-leb, lt-ltb, eqb-true, eqb-false, eq-eqb, ne_eqb}
use Rattle.laws.specs.Pick.{pick}
use Rattle.laws.specs.Put.{put}
use Rattle.laws.specs.Tests.{every}
use Rattle.laws.proofs.Chain.{by_test, clash}
use Rattle.laws.proofs.Put.{put_then, put-none}
use Rattle.definition.specs.Bytes.{le32, u32_at, counted}
use Rattle.definition.specs.Reply.{Answer, answered}
use Rattle.definition.specs.Segment.{Segment, class, instance, symbol, step, kind_of, logical_at, sized_at, segment_at, segments_from, segments}
use Rattle.definition.specs.Tables.{Tables, Flags}
use Rattle.definition.specs.Lookup.{program_of}
use Rattle.definition.specs.Page.{page_reply}
use Rattle.definition.specs.Symbols.{is_listed, due, start_of, page_start, list_symbols}
use Rattle.definition.specs.Answer.{by_service, answer}
use Rattle.cip.specs.Writes.{Written}
use Rattle.path.proofs.Segments.{segments_end, segments_next}
use Rattle.continued.specs.Point3.{Encodes}
use Rattle.continued.proofs.Requests.{u32_le32, to_service}
use Rattle.whole.specs.Short.{path-length, list_length}
use Rattle.whole.specs.Lists.{scope_named, scope_of, name_path, scope_path, list_path, list_request}

-- ---- the bytes

module _ (program : List ℕ) where
  no_name : length program ≡ 0 → scope_path program ≡ []
  unfolding scope_path
  no_name e = rw (eq-eqb (length program) 0 e)

  a_name : (length program ≡ 0 → ⊥) → scope_path program ≡ name_path program
  unfolding scope_path
  a_name e = rw (ne_eqb (length program) 0 e)

  name_even : length program % 2 ≡ 0 → name_path program ≡ 0x91 ∷ length program ∷ program
  name_even e = rw (eq-eqb (length program % 2) 0 e) (ap (λ (l : List ℕ). 0x91 ∷ length program ∷ l) (append-nil program))

  name_odd : (length program % 2 ≡ 0 → ⊥) → name_path program ≡ 0x91 ∷ length program ∷ program ++ (0 ∷ [])
  name_odd e = rw (ne_eqb (length program % 2) 0 e)

  name_length_lem : length (name_path program) ≡ 2 + length program + length program % 2
  name_length_lem =
      by_test (eqb (length program % 2) 0)
      (λ t. let e = eqb-true (length program % 2) 0 t in omega (arith, e, ap (λ (l : List ℕ). length l) (name_even e)))
      (λ t. let e = eqb-false (length program % 2) 0 t in
      omega (arith, e, ap (λ (l : List ℕ). length l) (name_odd e), length-append program (0 ∷ [])))

  pub size_none : length program ≡ 0 → (0 ≡ length (scope_path program)) × (0 ≤ 258)
  size_none e = (rw (no_name e) refl, omega arith)

  pub size_named : length program ≤ 255 → (length program ≡ 0 → ⊥)
      → (2 + length program + length program % 2 ≡ length (scope_path program)) × (2 + length program + length program % 2 ≤ 258)
  size_named h e = (rw (a_name e) (sym name_length_lem), omega arith)

  pub scope_even : (length (scope_path program) % 2 ≡ 0) × (length (scope_path program) ≤ 3 + length program)
  scope_even =
      by_test (eqb (length program) 0)
      (λ t. rw (no_name (eqb-true (length program) 0 t)) (refl, omega arith))
      (λ t. rw (a_name (eqb-false (length program) 0 t), name_length_lem) (omega arith, omega arith))

  pub scope-none : (old : List ℕ) → length program ≡ 0 → old ≡ put old 2 (scope_path program)
  scope-none old e = rw (no_name e) (sym (put-none old 2))

  module _ (old a b c : List ℕ) (words : ℕ) (short : length program ≤ 255) (fits : 2 + length (scope_path program) ≤ length old)
      (Some : length program ≡ 0 → ⊥)
      (p : a ≡ put old 2 (0x91 ∷ [])) (q : b ≡ put a 3 (words ∷ [])) (w : words ≡ length program) (r : c ≡ put b 4 program) where
    name_fits : 4 + length program + length program % 2 ≤ length old
    name_fits = omega (arith, (size_named short Some).0)

    name_put : c ≡ put old 2 (0x91 ∷ length program ∷ program)
    name_put =
        let two = put_then _ _ _ 2 _ _ _ p q refl (omega (arith, name_fits)) in
        let three = put_then _ _ _ 2 _ _ _ two r refl (omega (arith, name_fits)) in
        rw w at three

    pub scope_put_even : length program % 2 ≡ 0 → c ≡ put old 2 (scope_path program)
    scope_put_even e = rw (a_name Some, name_even e) name_put

    pub scope_put_odd : (d : List ℕ) → (length program % 2 ≡ 0 → ⊥) → d ≡ put c (4 + length program) (0 ∷ []) → d ≡ put old 2 (scope_path program)
    scope_put_odd d e s =
        rw (a_name Some, name_odd e)
        (put_then _ _ _ 2 (0x91 ∷ length program ∷ program) _ _ name_put s (omega arith) (omega (arith, name_fits)))

module _ (program attributes : List ℕ) (id : ℕ) where
  abbrev symbols_from : List ℕ
  symbols_from = 0x20 ∷ 0x6B ∷ 0x26 ∷ 0x00 ∷ []

  pub list_put : (n words : ℕ) (old a b c d e g : List ℕ) → n ≡ length (scope_path program) → 10 + n + length attributes ≤ length old → words ≡ (n + 8) / 2
      → a ≡ put old 0 (0x55 ∷ []) → b ≡ put a 1 (words ∷ []) → c ≡ put b 2 (scope_path program)
      → d ≡ put c (2 + n) symbols_from → e ≡ put d (6 + n) (le32 id) → g ≡ put e (10 + n) attributes
      → Written 0 (list_request program attributes id) old (10 + n + length attributes) g
  unfolding list_request list_path
  list_put n words old a b c d e g l fits w p q r s u v =
      let two = put_then _ _ _ 0 _ _ _ p q refl (omega arith) in
      let three = put_then _ _ _ 0 _ _ _ two r refl (omega arith) in
      let four = put_then _ _ _ 0 _ _ _ three s (omega arith) (omega arith) in
      let five = put_then _ _ _ 0 _ _ _ four u (omega (arith, length-append (scope_path program) symbols_from)) (omega arith) in
      let joined = append_assoc (scope_path program) symbols_from (le32 id) in
      let six = put_then _ _ _ 0 _ _ _ (rw joined at five) v (omega (arith, path-length program attributes id)) (omega arith) in
      let k : words ≡ length (list_path program id) / 2 = w ∙ rw (path-length program attributes id, l) refl in
      record { length_is = omega (arith, list_length program attributes id); buffer_is = rw k at six }

-- ---- the segments of the path

-- a byte behind the front of a list
past : (front rest : List ℕ) (k n : ℕ) → n ≡ length front + k → get_or (front ++ rest) n 0 ≡ get_or rest k 0
past front rest k n e = rw e (get_or-append-add front rest k 0)

abbrev object_path : ℕ → List ℕ
object_path id = 0x20 ∷ 0x6B ∷ 0x26 ∷ 0x00 ∷ le32 id

module _ (front : List ℕ) (id : ℕ) where
  abbrev path : List ℕ
  path = front ++ object_path id

  long : length path ≡ length front + 8
  long = length-append front (object_path id)

  class_at : segment_at path (length front) ≡ step (class 0x6B) (length front + 1 + 1)
  unfolding segment_at kind_of logical_at
  class_at =
      rw (
        past front (object_path id) 0 (length front) (omega arith),
        past front (object_path id) 1 (length front + 1) refl,
        le-leb (length front + 1 + 1) (length path) (omega (arith, long)),
      )

  id_at : id < 4294967296 → u32_at path (length front + 1 + 1 + 1 + 1) ≡ id
  id_at h =
      rw (
        past front (object_path id) 4 (length front + 1 + 1 + 1 + 1) (omega arith),
        past front (object_path id) 5 (length front + 1 + 1 + 1 + 1 + 1) (omega arith),
        past front (object_path id) 6 (length front + 1 + 1 + 1 + 1 + 2) (omega arith),
        past front (object_path id) 7 (length front + 1 + 1 + 1 + 1 + 2 + 1) (omega arith),
      )
      (u32_le32 id [] h)

  instance_at : id < 4294967296 → segment_at path (length front + 1 + 1) ≡ step (instance id) (length front + 1 + 1 + 1 + 5)
  unfolding segment_at kind_of logical_at
  instance_at h =
      rw (
        past front (object_path id) 2 (length front + 1 + 1) (omega arith),
        id_at h,
        le-leb (length front + 1 + 1 + 1 + 5) (length path) (omega (arith, long)),
      )

  object-segments : id < 4294967296 → segments_from path (length front) ≡ Some (class 0x6B ∷ (instance id ∷ []))
  object-segments h =
      segments_next path _ _ _ _ class_at (segments_next path _ _ _ _ (instance_at h) (segments_end path (length front + 1 + 1 + 1 + 5) (omega (arith, long))))

-- a name and what stands behind it, a pad at least where the name is odd
symbol-front : (name behind : List ℕ) → length name % 2 ≤ length behind
    → segment_at (0x91 ∷ length name ∷ name ++ behind) 0 ≡ step (symbol name) (2 + (length name + length name % 2))
unfolding segment_at kind_of sized_at
symbol-front name behind h =
    let all = 0x91 ∷ length name ∷ name ++ behind in
    rw (
      lt-ltb 1 (length all) (omega arith),
      le-leb (2 + (length name + length name % 2)) (length all) (omega (arith, length-append name behind)),
      take-append_seam name behind,
    )

module _ (program : List ℕ) (id : ℕ) where
  abbrev named : List ℕ
  named = name_path program ++ object_path id

  symbol_at : segment_at named 0 ≡ step (symbol program) (length (name_path program))
  symbol_at =
      let pad : List ℕ = pick (eqb (length program % 2) 0) [] (0 ∷ []) in
      let n : 2 + (length program + length program % 2) ≡ length (name_path program) = omega (arith, name_length_lem program) in
      ap (λ (l : List ℕ). segment_at (0x91 ∷ length program ∷ l) 0) (append_assoc program pad (object_path id))
      ∙ symbol-front program (pad ++ object_path id) (omega (arith, length-append pad (object_path id)))
      ∙ ap (step (symbol program)) n

  -- what a page's path decodes to
  abbrev pub decoded : List Segment
  decoded = pick (eqb (length program) 0) (class 0x6B ∷ (instance id ∷ [])) (symbol program ∷ (class 0x6B ∷ (instance id ∷ [])))

  path-decodes : id < 4294967296 → segments (list_path program id) ≡ Some decoded
  unfolding list_path
  path-decodes h =
      by_test (eqb (length program) 0)
      (λ t. rw (t, no_name program (eqb-true (length program) 0 t)) (object-segments [] id h))
      (λ t. rw (t, a_name program (eqb-false (length program) 0 t))
      (segments_next named 0 _ _ _ symbol_at (object-segments (name_path program) id h)))

  pub path-encodes : length program ≤ 255 → id < 4294967296 → Encodes (list_path program id) decoded
  path-encodes s h =
      let e = scope_even program in
      let l = path-length program [] id in
      record { whole_words = omega (arith, l, e.0); one_byte = omega (arith, l, e.1); decodes = path-decodes h }

  module _ (t : Tables) (scope : ℕ) where
    started : (o : Option ℕ) → scope_named o ≡ Some scope → start_of o (Some id) ≡ Some (record { scope = scope; id = id })
    started None e = clash (cc e)
    started (Some k) e = let q : suc k ≡ scope = cc e in rw q

    page_starts : scope_of t program ≡ Some scope → page_start t decoded ≡ Some (record { scope = scope; id = id })
    unfolding scope_of page_start
    page_starts e =
        by_test (eqb (length program) 0)
        (λ b. let q : 0 ≡ scope = cc (rw b at e) in rw (b, q))
        (λ b. rw b (started (program_of t program) (rw b at e)))

-- ---- the answer

module _ (t : Tables) (f : Flags) (m program attributes : List ℕ) (id limit : ℕ) (short : length program ≤ 255) (small : id < 4294967296) where
  list_answer : answer t f m (list_request program attributes id) limit ≡ answered (list_symbols t 0x55 (decoded program id) attributes limit) m
  unfolding list_request by_service
  list_answer = to_service t f m 0x55 (list_path program id) (decoded program id) attributes limit (path-encodes program id short small) refl refl refl

  pub list_keeps : (answer t f m (list_request program attributes id) limit).memory ≡ m
  list_keeps = ap (λ (a : Answer). a.memory) list_answer

  pub list_granted : (scope : ℕ) (numbers : List ℕ) → scope_of t program ≡ Some scope → counted attributes ≡ Some numbers → every is_listed numbers ≡ true
      → (answer t f m (list_request program attributes id) limit).reply ≡ page_reply 0x55 (due t scope numbers id) limit
  unfolding list_symbols
  list_granted scope numbers s c a =
      ap (λ (a : Answer). a.reply) list_answer ∙ rw (page_starts program id t scope s, c, a)
