-- An envelope's offsets read one by one, and its parts by their positions.
-- Assumes nothing.
use mathlib.Core.Path.{◌≡◌, refl, sym, ap, ◌∙◌}
use mathlib.Core.Bool.{Bool, true, false}
use mathlib.Core.List.{List, [], ◌∷◌}
use Rattle.std.specs.Prelude.{None, Some}
use Prim.Native.Nat.{ℕ, zero, suc, ◌+◌, ◌-◌, ◌*◌, ◌≤◌, ◌<◌}
use native.Mathlib.Omega.{arith}
use native.Mathlib.Numerals.{add-one}
use lib.Dec.{ltb, leb}
use Rattle.std.specs.Int.{from_le_bytes, w16}
use Rattle.std.specs.Prelude.{map}
use Rattle.std.proofs.lemmas.List.{length-map}
use Rattle.listing.specs.Numbers.{word}
use lib.ListN.{length, get_or, drop, length-take, drop_of_length-le, get_or-eq_default}
use lib.Seq.{drop-cons}
use borrow.Author.Tests.{lt-ltb, le-ltb, le-leb, lt-leb, leb-true, ltb-true, ltb-false}
use Rattle.laws.specs.Pick.{pick, is_some}
use Rattle.laws.proofs.Chain.{by_test, clash}
use Rattle.laws.proofs.Tests.{both_true}
use Rattle.definition.specs.Bytes.{u16_at, numbers, part, counted}
use Rattle.definition.specs.Envelope.{ascending, parts_from, parts_of}
use Rattle.definition.proofs.Numbers.{numbers_at, numbers_long, u16_drop}
use Rattle.logix.specs.Marked.{mark_at, PartOf}

-- as the library reads two bytes
as_word : (p : List ℕ) → from_le_bytes w16 p ≡ word p
as_word p = omega arith

-- ---- the offset of a part

module _ (body : List ℕ) (count i : ℕ) where
  pub mark_in : (x r : ℕ) → i < count → x ≡ u16_at body (2 + 2 * i) → r ≡ x → r ≡ mark_at body count i
  unfolding mark_at
  mark_in x r h e q = q ∙ e ∙ sym (numbers_at count (drop 2 body) i (length body) h ∙ u16_drop body 2 (2 * i) (2 + 2 * i) refl)

  pub mark_end : count ≤ i → length body ≡ mark_at body count i
  unfolding mark_at
  mark_end h = sym (get_or-eq_default (numbers count (drop 2 body)) (length body) (rw numbers_long h))

-- ---- offsets that do not fall back

module _ (pairs : List (List ℕ)) (first end : ℕ) where
  abbrev pub Ordered : (at i : ℕ) → Type 0
  Ordered at i = ascending at (map word (drop i pairs)) end ≡ ascending first (map word pairs) end

  module _ (at i : ℕ) (here : Ordered at i) where
    module _ (x next : ℕ) (more : i < length pairs) (two : x ≡ from_le_bytes w16 (get_or pairs i [])) (is : next ≡ x) where
      next_is : word (get_or pairs i []) ≡ next
      next_is = sym (is ∙ two ∙ as_word (get_or pairs i []))

      pub order_on : (j : ℕ) → at ≤ next → j ≡ i + 1 → Ordered next j
      unfolding ascending
      order_on j l t = rw (t, add-one) (rw (drop-cons pairs i [] more, next_is, le-leb at next l) at here)

      pub order_off : next < at → false ≡ ascending first (map word pairs) end
      unfolding ascending
      order_off l = rw (drop-cons pairs i [] more, next_is, lt-leb at next l) at here

    pub order_end : length pairs ≤ i → leb at end ≡ ascending first (map word pairs) end
    unfolding ascending
    order_end h = rw (drop_of_length-le pairs h) at here

-- an offset is not before the first and not behind the next, and the last not behind the end
not_past : (at : ℕ) (os : List ℕ) (end : ℕ) → ascending at os end ≡ true → at ≤ end
unfolding ascending
not_past at [] end e = leb-true at end e
not_past at (o ∷ os) end e =
    let b = both_true (leb at o) (ascending o os end) e in
    omega (arith, leb-true at o b.0, not_past o os end b.1)

record Between (at here next end : ℕ) : Type 0 where
  first : at ≤ here
  rises : here ≤ next
  last : next ≤ end

ascends_first : (at : ℕ) (os : List ℕ) (end : ℕ) → ascending at os end ≡ true → (at ≤ get_or os 0 end) × (get_or os 0 end ≤ end)
unfolding ascending
ascends_first at [] end e = (leb-true at end e, omega arith)
ascends_first at (o ∷ os) end e =
    let b = both_true (leb at o) (ascending o os end) e in
    (leb-true at o b.0, not_past o os end b.1)

ascends : (at : ℕ) (os : List ℕ) (end : ℕ) (i : ℕ) → ascending at os end ≡ true → i < length os → Between at (get_or os i end) (get_or os (suc i) end) end
unfolding ascending
ascends at [] end i e h = absurd (omega arith)
ascends at (o ∷ os) end zero e h =
    let b = both_true (leb at o) (ascending o os end) e in
    let f = ascends_first o os end b.1 in
    record { first = leb-true at o b.0; rises = f.0; last = f.1 }
ascends at (o ∷ os) end (suc i) e h =
    let b = both_true (leb at o) (ascending o os end) e in
    let r = ascends o os end i b.1 (omega arith) in
    record { first = omega (arith, leb-true at o b.0, r.first); rises = r.rises; last = r.last }

-- ---- the parts by their index

pub parts_long : (body os : List ℕ) → length (parts_from body os) ≡ length os
unfolding parts_from
parts_long body [] = refl
parts_long body (o ∷ []) = refl
parts_long body (o ∷ (p ∷ rest)) = ap suc (parts_long body (p ∷ rest))

parts_at : (body os : List ℕ) (i : ℕ) → i < length os
    → get_or (parts_from body os) i [] ≡ part body (get_or os i (length body)) (get_or os (suc i) (length body) - get_or os i (length body))
unfolding parts_from
parts_at body [] i h = absurd (omega arith)
parts_at body (o ∷ []) zero h = refl
parts_at body (o ∷ []) (suc i) h = absurd (omega arith)
parts_at body (o ∷ (p ∷ rest)) zero h = refl
parts_at body (o ∷ (p ∷ rest)) (suc i) h = parts_at body (p ∷ rest) i (omega arith)

-- ---- a body that has its parts

pub record HasParts (body : List ℕ) : Type 0 where
  pub is : parts_of body ≡ Some (parts_from body (numbers (u16_at body 0) (drop 2 body)))
  pub long : 2 + 2 * u16_at body 0 ≤ length body
  pub order : ascending (2 + 2 * u16_at body 0) (numbers (u16_at body 0) (drop 2 body)) (length body) ≡ true

module _ (body : List ℕ) where
  parts_missing : length body < 2 + 2 * u16_at body 0 → parts_of body ≡ None
  unfolding parts_of counted
  parts_missing h = rw (lt-ltb (length body) (2 + 2 * u16_at body 0) h)

  parts_by : 2 + 2 * u16_at body 0 ≤ length body
      → parts_of body ≡ pick (ascending (2 + 2 * u16_at body 0) (numbers (u16_at body 0) (drop 2 body)) (length body))
      (Some (parts_from body (numbers (u16_at body 0) (drop 2 body)))) None
  unfolding parts_of counted
  parts_by h = rw (le-ltb (length body) (2 + 2 * u16_at body 0) h, numbers_long)

  test_some : {A : Type 0} (t : Bool) (a : A) → t ≡ is_some (pick t (Some a) None)
  test_some true a = refl
  test_some false a = refl

  pub none_read : None ≡ counted body → is_some (parts_of body) ≡ false
  unfolding parts_of
  none_read e = rw (← e) refl

  module _ (pairs : List (List ℕ)) (e : Some (map word pairs) ≡ counted body) where
    counted_is : map word pairs ≡ numbers (u16_at body 0) (drop 2 body)
    unfolding counted
    counted_is =
        let n = u16_at body 0 in
        by_test (ltb (length body) (2 + 2 * n)) (λ t. clash (cc (rw t at e))) (λ t. cc (rw t at e))

    pub pairs_counted : length pairs ≡ u16_at body 0
    pairs_counted = sym (length-map pairs word) ∙ ap (λ (l : List ℕ). length l) counted_is ∙ numbers_long (u16_at body 0) (drop 2 body)

    pub pairs_read : map word pairs ≡ numbers (length pairs) (drop 2 body)
    pairs_read = rw pairs_counted counted_is

    pub pairs_order : (r : Bool) → r ≡ ascending (2 + 2 * length pairs) (map word pairs) (length body) → is_some (parts_of body) ≡ r
    unfolding parts_of
    pairs_order r q = rw (← e, length-map, ← q) (sym (test_some _ _))

  pub has_parts : (r : Bool) → r ≡ is_some (parts_of body) → r ≡ true → HasParts body
  has_parts r q y =
      let n = u16_at body 0 in
      let some-there : is_some (parts_of body) ≡ true = sym q ∙ y in
      by_test (ltb (length body) (2 + 2 * n))
      (λ t. clash (cc (rw (parts_missing (omega (arith, ltb-true (length body) (2 + 2 * n) t))) at some-there)))
      (λ t.
      let l = ltb-false (length body) (2 + 2 * n) t in
      let o : ascending (2 + 2 * n) (numbers n (drop 2 body)) (length body) ≡ true = test_some _ _ ∙ (rw (parts_by l) at some-there) in
      record { is = parts_by l ∙ rw o; long = l; order = o })

  -- all offsets lie in it
  pub offsets_there : (count : ℕ) → is_some (parts_of body) ≡ true → count ≡ u16_at body 0 → 2 + 2 * count ≤ length body
  offsets_there count p c = rw c (has_parts _ refl p).long

  module _ (count i start end : ℕ) (p : is_some (parts_of body) ≡ true) (c : count ≡ u16_at body 0) (h : i < count)
      (s : start ≡ mark_at body count i) (e : end ≡ mark_at body count (i + 1)) where
    lies : Between (2 + 2 * count) start end (length body)
    unfolding mark_at
    lies =
        let os = numbers count (drop 2 body) in
        rw (s, e, add-one) (ascends (2 + 2 * count) os (length body) i (rw c (has_parts _ refl p).order) (rw numbers_long h))

    pub part_rises : start ≤ end
    part_rises = lies.rises

    pub part_inside : end ≤ length body
    part_inside = lies.last

    pub part_is : PartOf body count i (part body start (end - start))
    unfolding mark_at
    part_is =
        let os = numbers count (drop 2 body) in
        let k : length (part body start (end - start)) ≤ end - start = rw length-take (omega arith) in
        record {
          is = sym (parts_at body os i (rw numbers_long h) ∙ rw (s, e, add-one));
          shorter = omega (arith, lies.first, lies.rises, lies.last);
        }

pub ruleset marks = (part_rises, part_inside, part_is)
