-- Masked writes: the turns of the loops over the bytes, and masks joined.
-- Assumes nothing.
use mathlib.Core.Path.{◌≡◌, sym, ap, ◌∙◌, refl}
use mathlib.Core.Bool.{true}
use mathlib.Core.List.{List, ◌++◌}
use Prim.Native.Nat.{ℕ, ◌+◌, ◌-◌, ◌*◌, ◌≤◌, ◌<◌}
use native.Mathlib.Omega.{arith}
use lib.Bits.{bit_or, bit_and}
use lib.Dec.{eqb}
use lib.ListN.{length, get_or, set, take, drop, length-set}
use borrow.Author.Tests.{eqb-true, eqb-false, le-ltb}
use Rattle.std.proofs.lemmas.List.{get_or-set_same, get_or-set_other}
use Rattle.std.proofs.lemmas.Grind.{same_number_lists}
use Rattle.laws.specs.Put.{put}
use Rattle.laws.proofs.Chain.{by_test}
use Rattle.laws.proofs.Put.{put_then, drop_put_past, length_part, length-put, mid-put}
use Rattle.laws.proofs.Tests.{both_true}
use borrow.Rule.Slice.PartMut.{put_mid}
use Rattle.std.specs.Prelude.{Ok}
use Rattle.definition.specs.Bytes.{u16_at, part}
use Rattle.definition.specs.Tables.{no_bit}
use Rattle.definition.specs.Types.{atomic_size, has_bits}
use Rattle.definition.specs.Resolve.{Target}
use Rattle.writes.specs.Storing.{Stores}
use Rattle.writes.proofs.Storing.{puts}
use Rattle.definition.specs.Masked.{masked, takes_mask, masked_stored}
use Rattle.definition.specs.Joined.{Masks, join_ors, joinable}
use Rattle.definition.proofs.Joined.{ors_at_any_width}
use Rattle.definition.proofs.Theorems.{masked_at_any_width}

-- ---- a loop that changes bytes in place, each by itself: the first j are changed, and the rest is as it was

pub record Changed (by : (i b : ℕ) → ℕ) (old : List ℕ) (j : ℕ) (cur : List ℕ) : Type 0 where
  pub long : length cur ≡ length old
  pub done : (k : ℕ) → k < j → get_or cur k 0 ≡ by k (get_or old k 0)
  pub rest : (k : ℕ) → j ≤ k → get_or cur k 0 ≡ get_or old k 0

module _ (by : (i b : ℕ) → ℕ) (old : List ℕ) where
  pub none_changed : Changed by old 0 old
  none_changed = record { long = refl; done = λ k h. absurd (omega arith); rest = λ k h. refl }

  pub one_more : (j : ℕ) (cur : List ℕ) → Changed by old j cur → (v n : ℕ) → j < length old → v ≡ by j (get_or cur j 0) → n ≡ j + 1
      → Changed by old n (set cur j v)
  one_more j cur c v n h e q = record {
    long = length-set cur j v ∙ c.long;
    done = λ k l.
        by_test (eqb k j)
        (λ t. let here = eqb-true k j t in rw here (get_or-set_same cur j v 0 (omega (arith, c.long)) ∙ e ∙ ap (by j) (c.rest j (omega arith))))
        (λ t. let other = eqb-false k j t in get_or-set_other cur j k v 0 other ∙ c.done k (omega (arith, other)));
    rest = λ k l. get_or-set_other cur j k v 0 (omega arith) ∙ c.rest k (omega arith);
  }

  pub all_changed : (j : ℕ) (cur made : List ℕ) → Changed by old j cur → length old ≤ j → length made ≡ length old
      → ((i : ℕ) → i < length old → get_or made i 0 ≡ by i (get_or old i 0)) → cur ≡ made
  all_changed j cur made c h n each =
      same_number_lists cur made (c.long ∙ sym n) (λ k l. c.done k (omega (arith, c.long)) ∙ sym (each k (omega (arith, c.long))))

pub masks_applied : (old ors ands cur : List ℕ) (j : ℕ) → length ors ≡ length old → length ands ≡ length old
    → Changed (λ i b. bit_and (bit_or b (get_or ors i 0)) (get_or ands i 0)) old j cur → length old ≤ j → cur ≡ masked old ors ands
masks_applied old ors ands cur j o n c h =
    let w = masked_at_any_width old ors ands o n in
    all_changed (λ i b. bit_and (bit_or b (get_or ors i 0)) (get_or ands i 0)) old j cur (masked old ors ands) c h w.0 w.1

pub ors_added : (old next cur : List ℕ) (j : ℕ) → length next ≡ length old → Changed (λ i b. bit_or b (get_or next i 0)) old j cur → length old ≤ j
    → cur ≡ join_ors old next
ors_added old next cur j n c h =
    let w = ors_at_any_width old next n in
    all_changed (λ i b. bit_or b (get_or next i 0)) old j cur (join_ors old next) c h w.0 w.1

pub ruleset turns = (none_changed, one_more, masks_applied, ors_added)

-- ---- masks laid on a part that was lent

pub masks_there : (xs : List ℕ) (at size : ℕ) (ors ands new : List ℕ) → at + size ≤ length xs → length ors ≡ size → length ands ≡ size
    → new ≡ masked (take (at + size - at) (drop at xs)) ors ands → put_mid at (at + size - at) xs new ≡ put xs at (masked (part xs at size) ors ands)
masks_there xs at size ors ands new fits o n e =
    let cut : at + size - at ≡ size = omega arith in
    let long = length_part xs at size fits in
    let w = masked_at_any_width (part xs at size) ors ands (o ∙ sym long) (n ∙ sym long) in
    mid-put xs at (at + size - at) (masked (part xs at size) ors ands) new (rw cut at e) (cut ∙ sym (w.0 ∙ long))

pub ors_there : (xs : List ℕ) (at : ℕ) (next new : List ℕ) → at + length next ≤ length xs
    → new ≡ join_ors (take (at + length next - at) (drop at xs)) next
    → put_mid at (at + length next - at) xs new ≡ put xs at (join_ors (part xs at (length next)) next)
ors_there xs at next new fits e =
    let cut : at + length next - at ≡ length next = omega arith in
    let long = length_part xs at (length next) fits in
    let w = ors_at_any_width (part xs at (length next)) next (sym long) in
    mid-put xs at (at + length next - at) (join_ors (part xs at (length next)) next) new (rw cut at e) (cut ∙ sym (w.0 ∙ long))

-- both masks where they stand in a request: the second write finds the AND masks as they were, and continues the first
pub joined_at : (request : List ℕ) (at : ℕ) (ors ands x y : List ℕ) → length ands ≡ length ors → at + 2 * length ors ≤ length request
    → x ≡ join_ors (take (at + length ors - at) (drop at request)) ors
    → y ≡ masked (take (at + length ors + length ors - (at + length ors)) (drop (at + length ors) (put_mid at (at + length ors - at) request x))) ors ands
    → put_mid (at + length ors) (at + length ors + length ors - (at + length ors)) (put_mid at (at + length ors - at) request x) y
    ≡ put request at (join_ors (part request at (length ors)) ors ++ masked (part request (at + length ors) (length ors)) ors ands)
joined_at request at ors ands x y same fits e f =
    let n = length ors in
    let made = join_ors (part request at n) ors in
    let rest = part request (at + n) n in
    let one = put_mid at (at + n - at) request x in
    let first = ors_there request at ors x (omega arith) e in
    let long = length_part request at n (omega arith) in
    let k : length made ≡ n = (ors_at_any_width (part request at n) ors (sym long)).0 ∙ long in
    let l : length rest ≡ n = length_part request (at + n) n (omega arith) in
    let m : length (masked rest ors ands) ≡ n = (masked_at_any_width rest ors ands (sym l) (same ∙ sym l)).0 ∙ l in
    let size : length one ≡ length request = ap length first ∙ length-put request at made (omega arith) in
    let second = masks_there one (at + n) n ors ands y (omega arith) refl same f in
    let there : part one (at + n) n ≡ rest = rw first (ap (take n) (drop_put_past request at made (omega arith) (at + n) (omega arith))) in
    put_then request one _ at made (at + n) (masked rest ors ands) first (rw there at second) (omega arith) (omega arith)

-- ---- two pairs of one length

pub joinable_lengths : (first next : Masks) → joinable first next ≡ true
    → (length first.ands ≡ length first.ors) × (length next.ors ≡ length first.ors) × (length next.ands ≡ length first.ors)
unfolding joinable
joinable_lengths first next e =
    let size = length first.ors in
    let a = both_true (eqb (length first.ands) size) _ e in
    let b = both_true (eqb (length next.ors) size) _ a.1 in
    (eqb-true _ _ a.0, eqb-true _ _ b.0, eqb-true _ _ b.1)

-- ---- the whole of a masked write

module _ (memory : List ℕ) (g : Target) (body : List ℕ) (size : ℕ) (takes : takes_mask g size ≡ true) where
  pub masks_fit : g.start + atomic_size g.type ≤ length memory → g.start + size ≤ length memory
  unfolding takes_mask
  masks_fit h =
      let b = both_true (has_bits g.type) _ (both_true (eqb g.bit no_bit) _ takes).1 in
      let q = eqb-true (atomic_size g.type) size b.1 in
      omega arith

  pub masks_stored : (new : List ℕ) → size ≡ u16_at body 0 → 2 + 2 * size ≤ length body → length body ≤ 2 + 2 * size → g.start + size ≤ length memory
      → new ≡ masked (take (g.start + size - g.start) (drop g.start memory)) (take (2 + size - 2) (drop 2 body))
      (take (2 + 2 * size - (2 + size)) (drop (2 + size) body))
      → Stores (masked_stored memory g body) memory (Ok tt) (put_mid g.start (g.start + size - g.start) memory new)
  unfolding masked_stored
  masks_stored new counts long short fits e =
      let n : 2 + size - 2 ≡ size = omega arith in
      let k : 2 + 2 * size - (2 + size) ≡ size = omega arith in
      puts _ _ _ _ _ (rw (← counts, le-ltb _ _ long, le-ltb _ _ short, takes))
      (masks_there memory g.start size (part body 2 size) (part body (2 + size) size) new fits (length_part body 2 size (omega arith))
      (length_part body (2 + size) size (omega arith)) (rw (n, k) at e))
