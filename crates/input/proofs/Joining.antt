-- Document 02, P13: two requests with the same bytes before their masks have one path and one size, and so has the one that joins them.
-- Assumes nothing.
use mathlib.Core.Path.{◌≡◌, refl, sym, ap, ap₂, ◌∙◌}
use mathlib.Core.Bool.{Bool, true, false, not}
use mathlib.Core.List.{List, ◌++◌}
use Rattle.std.specs.Prelude.{Option, None, Some}
use Prim.Native.Nat.{ℕ, ◌+◌, ◌-◌, ◌*◌, ◌/◌, ◌≤◌, ◌<◌}
use native.Mathlib.Omega.{arith}
use lib.Dec.{eqb}
use lib.ListN.{length, get_or, take, drop, length-append, length-drop}
use lib.Seq.{get_or-take, get_or-drop, drop-drop, take-take, take_at, drop_at, take_all}
use borrow.Author.Tests.{eqb-true, eq-eqb, ne_eqb, le-ltb, not-true, not-false}
use Rattle.std.specs.Bool.{then_some}
use Rattle.std.specs.Cmp.Lexicographic.{pointwise}
use Rattle.input.proofs.Words.{same_text}
use Rattle.laws.specs.Pick.{pick}
use Rattle.laws.specs.Put.{put}
use Rattle.laws.specs.Zip.{agree}
use Rattle.laws.proofs.Chain.{clash, by_test}
use Rattle.laws.proofs.Put.{put-before, length-put, part_put, part_of_take, part_of_part, length_part}
use Rattle.laws.proofs.Tests.{both_true, both-none}
use Rattle.laws.proofs.Zip.{agree_same}
use Rattle.definition.specs.Bytes.{u16_at, part}
use Rattle.definition.specs.Segment.{Segment, segments}
use Rattle.definition.specs.Request.{request, request_of, with_path}
use Rattle.definition.specs.Joined.{pair, join, masks_in}
use Rattle.definition.specs.Promises.{Masking}
use Rattle.definition.proofs.Joined.{Sized, join_sized}
use Rattle.input.specs.Clicks.{mask_start, mask_size, is_masked_write, found_masks, masks_at, joins, joined_request, RequestsJoin}

-- ---- a masked write, as the code finds it

module _ (s : List ℕ) where
  pub cut_short : length s < mask_start s → None ≡ found_masks s
  unfolding is_masked_write
  cut_short h = rw (ne_eqb (length s) (mask_start s + 2 * mask_size s) (omega arith), both-none (eqb (get_or s 0 0) 0x4E)) refl

  pub other-service : (get_or s 0 0 ≡ 0x4E → ⊥) → None ≡ found_masks s
  unfolding is_masked_write
  other-service h = rw (ne_eqb (get_or s 0 0) 0x4E h) refl

  module _ (words size n : ℕ) (w : words ≡ get_or s 1 0) (u : n ≡ u16_at s (4 + 2 * words - 2)) (q : size ≡ n) where
    size_is : size ≡ mask_size s
    size_is = let k : mask_start s - 2 ≡ 2 + 2 * get_or s 1 0 = omega arith in q ∙ u ∙ rw (w, k) refl

    pub whole_write : get_or s 0 0 ≡ 0x4E → then_some (eqb (length s) (4 + 2 * words + 2 * size)) (4 + 2 * words) ≡ found_masks s
    unfolding is_masked_write
    whole_write first =
        rw (w, size_is, eq-eqb (get_or s 0 0) 0x4E first)
        (by_test (eqb (length s) (mask_start s + 2 * mask_size s)) (λ t. rw t refl) (λ t. rw t refl))

  pub is_none : None ≡ found_masks s → is_masked_write s ≡ false
  is_none e = by_test (is_masked_write s) (λ t. cc (rw t at e)) (λ t. t)

  is_one : (at : ℕ) → Some at ≡ found_masks s → (is_masked_write s ≡ true) × (at ≡ mask_start s)
  is_one at e = by_test (is_masked_write s) (λ t. (t, cc (rw t at e))) (λ t. cc (rw t at e))

module _ (row next : List ℕ) where
  pub not-joined : joins row next ≡ false → (false ≡ joins row next) × (row ≡ pick (joins row next) (joined_request row next) row)
  not-joined e = rw e (refl, refl)

  row_long : is_masked_write row ≡ true → length row ≡ mask_start row + 2 * mask_size row
  unfolding is_masked_write
  row_long e = eqb-true (length row) (mask_start row + 2 * mask_size row) (both_true (eqb (get_or row 0 0) 0x4E) _ e).1

  pub no_row : None ≡ found_masks row → joins row next ≡ false
  unfolding joins
  no_row e = rw (is_none row e)

  module _ (at : ℕ) (found : Some at ≡ found_masks row) where
    start_is : at ≡ mask_start row
    start_is = (is_one row at found).1

    pub no_length : (length next ≡ length row → ⊥) → joins row next ≡ false
    unfolding joins
    no_length h = rw ((is_one row at found).0, ne_eqb (length next) (length row) h)

    module _ (n : length next ≡ length row) where
      joins_is : joins row next ≡ agree eqb (take at row) (take at next)
      unfolding joins
      joins_is = rw ((is_one row at found).0, eq-eqb (length next) (length row) n, ← start_is)

      pub no_front : (r : Bool) → r ≡ not (pointwise eqb (take at row) (take at next)) → r ≡ true → joins row next ≡ false
      no_front r e t = joins_is ∙ sym (same_text (take at row) (take at next)) ∙ not-true _ (sym e ∙ t)

      -- what stands behind those bytes has two halves, the next request's masks
      module _ (ands : ℕ) (half : ands ≡ at + (length next - at) / 2) where
        size_of : length next - at ≡ 2 * mask_size row
        size_of = let long = row_long (is_one row at found).0 in let e = start_is in omega arith

        pub halves : (length (take (ands - at) (drop at next)) ≡ mask_size row) × (length (take (length next - ands) (drop ands next)) ≡ mask_size row)
            × (at + 2 * mask_size row ≤ length row)
        halves =
            let long = row_long (is_one row at found).0 in
            let e = start_is in (
              length_part next at (ands - at) (omega arith) ∙ omega arith,
              length_part next ands (length next - ands) (omega arith) ∙ omega arith,
              omega arith,
            )

        pub row-joined : (new : List ℕ) (r : Bool) → r ≡ not (pointwise eqb (take at row) (take at next)) → r ≡ false
            → let ors = take (ands - at) (drop at next) in
            let masks = join (masks_at row at (length ors)) (pair ors (take (length next - ands) (drop ands next))) in
            new ≡ put row at (masks.ors ++ masks.ands)
            → (true ≡ joins row next) × (new ≡ pick (joins row next) (joined_request row next) row)
        unfolding joined_request
        row-joined new r q t put_is =
            let long = row_long (is_one row at found).0 in
            let e = start_is in
            let size = mask_size row in
            let one : ands - at ≡ size = omega arith in
            let two : length next - ands ≡ size = omega arith in
            let three : ands ≡ at + size = omega arith in
            let ors : length (take size (drop at next)) ≡ size = length_part next at size (omega arith) in
            let same : joins row next ≡ true = joins_is ∙ sym (same_text (take at row) (take at next)) ∙ not-false _ (sym q ∙ t) in
            rw same (refl, rw (← e) (rw (one, two, three, ors) at put_is))

-- ---- a request whose bytes before the masks are the row's, and which is as long

module _ (row : List ℕ) (long : length row ≡ mask_start row + 2 * mask_size row) where
  abbrev words : ℕ
  words = get_or row 1 0

  record Fronted (s : List ℕ) : Type 0 where
    front : take (mask_start row) s ≡ take (mask_start row) row
    as_long : length s ≡ length row

  byte_is : (s : List ℕ) (i : ℕ) → Fronted s → i < mask_start row → get_or s i 0 ≡ get_or row i 0
  byte_is s i f h =
      sym (get_or-take (mask_start row) s i 0 h) ∙ ap (λ (l : List ℕ). get_or l i 0) f.front ∙ get_or-take (mask_start row) row i 0 h

  path_is : (s : List ℕ) → Fronted s → part s 2 (2 * words) ≡ part row 2 (2 * words)
  path_is s f =
      sym (part_of_take 2 (2 * words) (mask_start row) s (omega arith))
      ∙ ap (λ (l : List ℕ). part l 2 (2 * words)) f.front
      ∙ part_of_take 2 (2 * words) (mask_start row) row (omega arith)

  request_is : (s : List ℕ) → Fronted s → request_of s ≡ with_path (get_or row 0 0) (segments (part row 2 (2 * words))) (drop (2 + 2 * words) s)
  unfolding request_of
  request_is s f =
      let n = f.as_long in
      rw (byte_is s 0 f (omega arith), byte_is s 1 f (omega arith), path_is s f, le-ltb (length s) (2 + 2 * words) (omega arith)) refl

  -- the masks of its body are those that stand at the row's place
  body-masks : (s : List ℕ) → Fronted s → masks_in (drop (2 + 2 * words) s) ≡ Some (masks_at s (mask_start row) (mask_size row))
  unfolding masks_in
  body-masks s f =
      let at = 2 + 2 * words in
      let size = mask_size row in
      let n = f.as_long in
      let zero : at + 0 ≡ at = omega arith in
      let two : at + 2 ≡ mask_start row = omega arith in
      let more : at + (2 + size) ≡ mask_start row + size = omega arith in
      let low : get_or (drop at s) 0 0 ≡ get_or row at 0 =
      get_or-drop at s 0 0 ∙ ap (λ (k : ℕ). get_or s k 0) zero ∙ byte_is s at f (omega arith) in
      let high : get_or (drop at s) 1 0 ≡ get_or row (at + 1) 0 = get_or-drop at s 1 0 ∙ byte_is s (at + 1) f (omega arith) in
      let k : length (drop at s) ≡ 2 + 2 * size = rw length-drop (omega arith) in
      let ors : drop 2 (drop at s) ≡ drop (mask_start row) s = drop-drop 2 at s ∙ ap (λ (k : ℕ). drop k s) two in
      let ands : drop (2 + size) (drop at s) ≡ drop (mask_start row + size) s =
      drop-drop (2 + size) at s ∙ ap (λ (k : ℕ). drop k s) more in
      rw (low, high, eq-eqb (length (drop at s)) (2 + 2 * size) k, ors, ands) refl

  masking_of : (path : List Segment) (body s : List ℕ) → request_of row ≡ request 0x4E path body → Fronted s
      → Masking path (masks_at s (mask_start row) (mask_size row)) s
  masking_of path body s is f = go (segments (part row 2 (2 * words))) (sym (request_is row (record { front = refl; as_long = refl })) ∙ is) (request_is s f)
    where
      go : (o : Option (List Segment)) → with_path (get_or row 0 0) o (drop (2 + 2 * words) row) ≡ request 0x4E path body
          → request_of s ≡ with_path (get_or row 0 0) o (drop (2 + 2 * words) s) → Masking path (masks_at s (mask_start row) (mask_size row)) s
      go None e r = clash (cc e)
      go (Some p) e r =
          let service : get_or row 0 0 ≡ 0x4E = cc e in
          let same : p ≡ path = cc e in
          record {
            body = drop (2 + 2 * words) s;
            is = r ∙ ap₂ (λ (x : ℕ) (q : List Segment). request x q (drop (2 + 2 * words) s)) service same;
            masks_are = body-masks s f;
          }

-- ---- the joined request

-- two lists of one length that were written one behind the other
put_halves : (xs : List ℕ) (a size : ℕ) (ys zs : List ℕ) → length ys ≡ size → length zs ≡ size → a + 2 * size ≤ length xs
    → masks_at (put xs a (ys ++ zs)) a size ≡ pair ys zs
put_halves xs a size ys zs p q h =
    let n : length (ys ++ zs) ≡ 2 * size = length-append ys zs ∙ omega arith in
    let all : take (2 * size) (drop a (put xs a (ys ++ zs))) ≡ ys ++ zs = rw n at (part_put xs a (ys ++ zs) (omega arith)) in
    let first : part (put xs a (ys ++ zs)) a size ≡ ys =
    sym (take-take size (2 * size) (drop a (put xs a (ys ++ zs))) (omega arith)) ∙ ap (take size) all ∙ take_at ys zs size p in
    let second : part (put xs a (ys ++ zs)) (a + size) size ≡ zs =
    part_of_part (put xs a (ys ++ zs)) a (2 * size) size size (omega arith) ∙ ap (λ (l : List ℕ). take size (drop size l)) all
    ∙ ap (take size) (drop_at ys zs size p) ∙ take_all size zs (omega arith) in
    ap₂ pair first second

sized : (s : List ℕ) (at size : ℕ) → at + 2 * size ≤ length s → Sized size (masks_at s at size)
sized s at size h = record {
  ors_long = length_part s at size (omega arith);
  ands_long = length_part s (at + size) size (omega arith);
}

pub requests_join : RequestsJoin
unfolding joins is_masked_write joined_request
requests_join path first row next e w =
    let j = both_true (is_masked_write row) _ e in
    let r = both_true (eqb (get_or row 0 0) 0x4E) _ j.0 in
    let long : length row ≡ mask_start row + 2 * mask_size row = eqb-true (length row) (mask_start row + 2 * mask_size row) r.1 in
    let k = both_true (eqb (length next) (length row)) _ j.1 in
    let at = mask_start row in
    let size = mask_size row in
    let as_long : length next ≡ length row = eqb-true (length next) (length row) k.0 in
    let front : take at row ≡ take at next = agree_same (take at row) (take at next) k.1 in
    let its = masking_of row long path w.body row w.is (record { front = refl; as_long = refl }) in
    let there = masking_of row long path w.body next w.is (record { front = sym front; as_long = as_long }) in
    let body : its.body ≡ w.body = cc (sym its.is ∙ w.is) in
    let masks : masks_at row at size ≡ first = cc (sym (rw body at its.masks_are) ∙ w.masks_are) in
    let one : Sized size (masks_at row at size) = sized row at size (omega arith) in
    let two : Sized size (masks_at next at size) = sized next at size (omega arith) in
    let both = join_sized size (masks_at row at size) (masks_at next at size) one two in
    let m = join (masks_at row at size) (masks_at next at size) in
    let fits : length (m.ors ++ m.ands) ≡ 2 * size = length-append m.ors m.ands ∙ omega (arith, both.ors_long, both.ands_long) in
    let joined =
    masking_of row long path w.body (joined_request row next) w.is (record {
      front = put-before row at (m.ors ++ m.ands) (omega arith);
      as_long = length-put row at (m.ors ++ m.ands) (omega arith);
    }) in
    let are : masks_at (joined_request row next) at size ≡ m =
    put_halves row at size m.ors m.ands both.ors_long both.ands_long (omega arith) in
    record {
      masks = masks_at next at size;
      masking = there;
      same_size = rw (← masks) (one.ors_long ∙ sym two.ors_long);
      joined = rw (← masks) (rw are at joined);
    }
