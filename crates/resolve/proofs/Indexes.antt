-- A run of elements by its last three values against three lengths is the definition's list of indexes against its lengths.
-- Assumes nothing.
use mathlib.Core.Path.{◌≡◌, refl, sym, ◌∙◌}
use mathlib.Core.Logic.{◌≢◌, ◌⊎◌, inl, inr}
use mathlib.Core.Bool.{Bool, true, false}
use mathlib.Core.List.{List, [], ◌∷◌}
use Prim.Native.Nat.{ℕ, ◌+◌, ◌*◌, ◌<◌, ◌≤◌}
use native.Mathlib.Nat.{mul-le-mul_right, mul-le-mul_left}
use native.Mathlib.Omega.{arith}
use lib.Dec.{ltb, eqb}
use lib.ListN.{length}
use borrow.Author.Tests.{ne_eqb, eq-eqb}
use Rattle.laws.specs.Pick.{pick, both, is_empty}
use Rattle.laws.proofs.Chain.{by_test}
use Rattle.laws.proofs.Tests.{not_empty}
use Rattle.definition.specs.Reply.{path_error, path_unknown}
use Rattle.definition.specs.Tables.{Tables, Row}
use Rattle.definition.specs.Types.{size_in}
use Rattle.definition.specs.Valid.{product}
use Rattle.definition.specs.Resolve.{Target, Resolved, found, turned, all_below, row_major, elements_from, index}
use Rattle.definition.proofs.Inside.{position_below}
use Rattle.resolve.specs.declared.places.Place.{Place}
use Rattle.resolve.specs.declared.elements.Run.{Run}
use Rattle.resolve.specs.Places.{first_of, second_of, third_of, open_lengths, place_of}
use Rattle.resolve.specs.Runs.{last_three, Holds, inside_of, position_of, index_of, Bounded}

both_end : (b : Bool) → both b true ≡ b
both_end true = refl
both_end false = refl

pick_same : {A : Type 0} (t : Bool) (a : A) → pick t a a ≡ a
pick_same true a = refl
pick_same false a = refl

no_element : (ns : List ℕ) → length ns ≡ 0 → is_empty ns ≡ true
no_element [] h = refl
no_element (n ∷ ns) h = absurd (omega arith)

-- ---- one, two and three indexes

below_one : (a n : ℕ) → all_below (a ∷ []) (n ∷ []) ≡ ltb a n
unfolding all_below
below_one a n = both_end (ltb a n)

row_one : (a n : ℕ) → row_major 0 (a ∷ []) (n ∷ []) ≡ a
unfolding row_major
row_one a n = omega arith

below_two : (a b n m : ℕ) → all_below (a ∷ b ∷ []) (n ∷ m ∷ []) ≡ both (ltb a n) (ltb b m)
unfolding all_below
below_two a b n m = rw (both_end (ltb b m))

row_two : (a b n m : ℕ) → row_major 0 (a ∷ b ∷ []) (n ∷ m ∷ []) ≡ a * m + b
unfolding row_major
row_two a b n m = let z : 0 * n + a ≡ a = omega arith in rw z

below_three : (a b d n m k : ℕ) → all_below (a ∷ b ∷ d ∷ []) (n ∷ m ∷ k ∷ []) ≡ both (ltb a n) (both (ltb b m) (ltb d k))
unfolding all_below
below_three a b d n m k = rw (both_end (ltb d k))

row_three : (a b d n m k : ℕ) → row_major 0 (a ∷ b ∷ d ∷ []) (n ∷ m ∷ k ∷ []) ≡ (a * m + b) * k + d
unfolding row_major
row_three a b d n m k = let z : 0 * n + a ≡ a = omega arith in rw z

-- ---- any indexes: es has as many as there are lengths

module _ (ns : List ℕ) where
  abbrev Agree : List ℕ → Type 0
  Agree es =
      (inside_of ns (last_three 0 0 0 es) ≡ all_below es (open_lengths ns)) × (position_of ns (last_three 0 0 0 es) ≡ row_major 0 es (open_lengths ns))

  agree_one : eqb (first_of ns) 0 ≡ false → eqb (second_of ns) 0 ≡ true → (es : List ℕ) → length es ≡ 1 → Agree es
  unfolding last_three
  agree_one t u [] h = absurd (omega arith)
  agree_one t u (a ∷ []) h = rw (t, u) (sym (below_one a (first_of ns)), sym (row_one a (first_of ns)))
  agree_one t u (a ∷ (b ∷ es)) h = absurd (omega arith)

  agree_two : eqb (first_of ns) 0 ≡ false → eqb (second_of ns) 0 ≡ false → eqb (third_of ns) 0 ≡ true → (es : List ℕ) → length es ≡ 2
      → Agree es
  unfolding last_three
  agree_two t u w [] h = absurd (omega arith)
  agree_two t u w (a ∷ []) h = absurd (omega arith)
  agree_two t u w (a ∷ (b ∷ [])) h = rw (t, u, w) (sym (below_two a b (first_of ns) (second_of ns)), sym (row_two a b (first_of ns) (second_of ns)))
  agree_two t u w (a ∷ (b ∷ (d ∷ es))) h = absurd (omega arith)

  agree_three : eqb (first_of ns) 0 ≡ false → eqb (second_of ns) 0 ≡ false → eqb (third_of ns) 0 ≡ false → (es : List ℕ) → length es ≡ 3
      → Agree es
  unfolding last_three
  agree_three t u w [] h = absurd (omega arith)
  agree_three t u w (a ∷ []) h = absurd (omega arith)
  agree_three t u w (a ∷ (b ∷ [])) h = absurd (omega arith)
  agree_three t u w (a ∷ (b ∷ (d ∷ []))) h =
      rw (t, u, w)
      (sym (below_three a b d (first_of ns) (second_of ns) (third_of ns)), sym (row_three a b d (first_of ns) (second_of ns) (third_of ns)))
  agree_three t u w (a ∷ (b ∷ (d ∷ (x ∷ es)))) h = absurd (omega arith)

  agrees : eqb (first_of ns) 0 ≡ false → (es : List ℕ) → length es ≡ length (open_lengths ns) → Agree es
  agrees t es h =
      by_test (eqb (second_of ns) 0) (λ u. agree_one t u es (rw (t, u) at h))
      (λ u. by_test (eqb (third_of ns) 0) (λ w. agree_two t u w es (rw (t, u, w) at h)) (λ w. agree_three t u w es (rw (t, u, w) at h)))

  first_some : length (open_lengths ns) ≢ 0 → eqb (first_of ns) 0 ≡ false
  first_some h = by_test (eqb (first_of ns) 0) (λ t. absurd (h (rw t))) (λ t. t)

  module _ (es : List ℕ) (t : eqb (first_of ns) 0 ≡ false) (below : inside_of ns es ≡ true) where
    position_inside : position_of ns es < product (open_lengths ns)
    position_inside =
        by_test (eqb (second_of ns) 0)
        (λ u. rw (t, u) (omega (
          arith,
          row_one (third_of es) (first_of ns),
          position_below 0 (third_of es ∷ []) (first_of ns ∷ []) refl (below_one (third_of es) (first_of ns) ∙ (rw u at below)),
        )))
        (λ u. by_test (eqb (third_of ns) 0)
        (λ w. rw (t, u, w) (omega (
          arith,
          row_two (second_of es) (third_of es) (first_of ns) (second_of ns),
          position_below 0 (second_of es ∷ third_of es ∷ []) (first_of ns ∷ second_of ns ∷ []) refl
              (below_two (second_of es) (third_of es) (first_of ns) (second_of ns) ∙ (rw (u, w) at below)),
        )))
        (λ w. rw (t, u, w) (omega (
          arith,
          row_three (first_of es) (second_of es) (third_of es) (first_of ns) (second_of ns) (third_of ns),
          position_below 0 (first_of es ∷ second_of es ∷ third_of es ∷ []) (first_of ns ∷ second_of ns ∷ third_of ns ∷ []) refl
              (below_three (first_of es) (second_of es) (third_of es) (first_of ns) (second_of ns) (third_of ns) ∙ (rw (u, w) at below)),
        ))))

-- ---- sums and products stay small

module _ (structures : List Row) (g : Place) (bounded : Bounded structures g) (es : List ℕ) (n : ℕ)
    (dims : n ≡ length (open_lengths g.lengths)) (some : n ≢ 0)
    (b : Bool) (tests : b ≡ inside_of g.lengths es) (on : b ≡ true) where
  inside : position_of g.lengths es < product (open_lengths g.lengths)
  inside = position_inside g.lengths es (first_some g.lengths (λ e. some (dims ∙ e))) (sym tests ∙ on)

  pub position_small : position_of g.lengths es ≤ 65536
  position_small =
      let size = size_in structures g.ty in
      let few : g.count * 1 ≤ g.count * size = mul-le-mul_left g.count bounded.some_bytes in
      omega (arith, inside, bounded.reach, bounded.within, few)

  module _ (p : ℕ) (is : p ≡ position_of g.lengths es) where
    pub position_counted : p ≤ g.count
    position_counted = omega (arith, inside, bounded.reach, is)

    pub position_within : g.start + p * size_in structures g.ty ≤ 65536
    position_within = omega (arith, bounded.within, mul-le-mul_right (size_in structures g.ty) position_counted)

-- ---- the answers, each from what the code knows there: n is the number of open lengths, b whether each index is below its length

module _ (t : Tables) (g : Place) (run : Run) (n : ℕ) (dims : n ≡ length (open_lengths g.lengths)) where
  abbrev ns : List ℕ
  ns = open_lengths g.lengths

  abbrev Indexed : Resolved → Type 0
  Indexed d = (es : List ℕ) → Holds es run → d ≡ index t es (place_of g)

  -- of a run that holds a list or none
  abbrev AnyIs : Resolved → Type 0
  AnyIs d = d ≡ index_of t g run

  index_closed : n ≡ 0 → Indexed (turned path_error)
  unfolding index
  index_closed h es held = rw (no_element ns (sym dims ∙ h))

  index_number : run.count ≢ n → Indexed (turned path_error)
  unfolding index
  index_number h es held = rw (ne_eqb (length es) (length ns) (λ e. h (held.count_is ∙ e ∙ sym dims)), pick_same)

  pub index_refused : (n ≡ 0) ⊎ ((n ≢ 0) × (run.count ≢ n)) → Indexed (turned path_error)
  index_refused (inl h) = index_closed h
  index_refused (inr h) = index_number h.1

  pub any_refused : (n ≡ 0) ⊎ ((n ≢ 0) × (run.count ≢ n)) → AnyIs (turned path_error)
  unfolding index_of
  any_refused (inl h) = rw (no_element ns (sym dims ∙ h))
  any_refused (inr h) = rw (ne_eqb run.count (length ns) (λ e. h.1 (e ∙ sym dims)), pick_same)

  module _ (some : n ≢ 0) (same : run.count ≡ n) (b : Bool) (tests : b ≡ inside_of g.lengths run.last) where
    some_open : length ns ≢ 0
    some_open e = some (dims ∙ e)

    tested : (es : List ℕ) → Holds es run
        → (inside_of g.lengths run.last ≡ all_below es ns) × (position_of g.lengths run.last ≡ row_major 0 es ns)
    tested es held = rw held.last_are (agrees g.lengths (first_some g.lengths some_open) es (sym held.count_is ∙ same ∙ dims))

    opened : is_empty ns ≡ false
    opened = not_empty ns (omega (arith, some_open))

    counts : (es : List ℕ) → Holds es run → eqb (length es) (length ns) ≡ true
    counts es held = eq-eqb (length es) (length ns) (sym held.count_is ∙ same ∙ dims)

    any_counts : eqb run.count (length ns) ≡ true
    any_counts = eq-eqb run.count (length ns) (same ∙ dims)

    pub index_outside : b ≡ false → Indexed (turned path_unknown)
    unfolding index
    index_outside off es held = rw (opened, counts es held, ← (tested es held).0, ← tests, off)

    pub any_outside : b ≡ false → AnyIs (turned path_unknown)
    unfolding index_of
    any_outside off = rw (opened, any_counts, ← tests, off)

    pub index-inside : b ≡ true → (p : ℕ) → p ≡ position_of g.lengths run.last → (to : Target)
        → to ≡ elements_from t (place_of g) p → Indexed (found to)
    unfolding index
    index-inside on p e to f es held = rw (opened, counts es held, ← (tested es held).0, ← tests, on, ← (tested es held).1, ← e, f)

    pub any-inside : b ≡ true → (p : ℕ) → p ≡ position_of g.lengths run.last → (to : Target) → to ≡ elements_from t (place_of g) p
        → AnyIs (found to)
    unfolding index_of
    any-inside on p e to f = rw (opened, any_counts, ← tests, on, ← e, f)

pub ruleset index_laws = (index_refused, index_outside, index-inside)

pub ruleset any_laws = (any_refused, any_outside, any-inside)
