-- A walk to a path's i-th segment that has come to a position: it goes on, or ends. And what the count of a path's segments says of its i-th.
-- Assumes nothing.
use mathlib.Core.Path.{◌≡◌, refl, sym, ap, ◌∙◌}
use mathlib.Core.Bool.{true}
use mathlib.Core.List.{List, [], ◌∷◌, map}
use Rattle.std.specs.Prelude.{Option, None, Some}
use Prim.Native.Nat.{ℕ, zero, suc, ◌+◌, ◌-◌, ◌≤◌}
use native.Mathlib.Omega.{arith}
use lib.Dec.{ltb}
use lib.ListN.{length, length-map}
use borrow.Author.Tests.{ltb-true, ltb-false}
use Rattle.laws.specs.Pick.{is_some}
use Rattle.laws.specs.Items.{before, items}
use Rattle.laws.proofs.Chain.{by_test, clash}
use Rattle.laws.proofs.Items.{items_at, items_bad, items_end}
use Rattle.definition.specs.Segment.{Segment as Defined, Step, step, cut, segment_at, next_of, segment_of, only_segments, segments_from}
use Rattle.path.specs.Nth.{steps_of, nth, nth_in, start_in, count_by, segment_count}
use Rattle.path.proofs.Forward.{forward, step_inside}

-- ---- by what the path's segments are

cut-outside : (l : List Step) (i : ℕ) → length l ≤ i → cut ≡ nth l i
unfolding nth
cut-outside [] i h = refl
cut-outside (s ∷ l) zero h = absurd (omega arith)
cut-outside (s ∷ l) (suc i) h = cut-outside l i (omega arith)

behind_by : (i n : ℕ) (m : Option (List Step)) → Some n ≡ count_by (only_segments m) → n ≤ i → cut ≡ nth_in m i
behind_by i n None e h = refl
behind_by i n (Some l) e h = let k : n ≡ length (map segment_of l) = cc e in cut-outside l i (omega (arith, h, k, length-map l segment_of))

bad_by : (i : ℕ) (m : Option (List Step)) → None ≡ count_by (only_segments m) → cut ≡ nth_in m i
bad_by i None e = refl
bad_by i (Some l) e = clash (cc e)

decodes_by : (n : ℕ) (m : Option (List Step)) → Some n ≡ count_by (only_segments m) → is_some m ≡ true
decodes_by n None e = clash (cc e)
decodes_by n (Some l) e = refl

nth-before : (s : Step) (m : Option (List Step)) (k : ℕ) → nth_in (before s m) (suc k) ≡ nth_in m k
unfolding nth
nth-before s None k = refl
nth-before s (Some l) k = refl

first-before : (s : Step) (m : Option (List Step)) → is_some (before s m) ≡ true → s ≡ nth_in (before s m) 0
unfolding nth
first-before s None d = clash (cc d)
first-before s (Some l) d = refl

rest-before : (s : Step) (m : Option (List Step)) → is_some (before s m) ≡ true → is_some m ≡ true
rest-before s None d = d
rest-before s (Some l) d = refl

-- ---- the walk

-- the segments from a position on, each with the position behind it
abbrev pub steps_from : List ℕ → ℕ → Option (List Step)
steps_from path at = items (segment_at path) next_of (length path) (length path) at

-- j segments stand before this position in a path that decodes: the j-th starts here, and those from here on are those from the j-th on
pub record Reaching (path : List ℕ) (at j : ℕ) : Type 0 where
  pub decodes : is_some (steps_from path at) ≡ true
  pub on : (k : ℕ) → nth_in (steps_from path at) k ≡ nth_in (steps_of path) (j + k)
  pub starts : at ≡ start_in (steps_of path) j

module _ (path : List ℕ) where
  steps_at : (at : ℕ) (s : Defined) (next : ℕ) → segment_at path at ≡ step s next → steps_from path at ≡ before (step s next) (steps_from path next)
  steps_at at s next e =
      let i = step_inside path at s next e in
      let n : next_of (segment_at path at) ≡ 0 → ⊥ = λ z. absurd (omega (arith, i.0, sym (ap next_of e) ∙ z)) in
      rw e at (items_at (segment_at path) next_of (length path) (forward path) (length path) at (omega arith) (omega (arith, i.0, i.1)) n)

  steps-cut : (at k : ℕ) → segment_at path at ≡ cut → cut ≡ nth_in (steps_from path at) k
  unfolding nth
  steps-cut at k e =
      by_test (ltb at (length path))
      (λ t. let h = ltb-true at (length path) t in
      rw (items_bad (segment_at path) next_of (length path) (forward path) (length path) at (omega arith) h (ap next_of e)) refl)
      (λ t. rw (items_end (segment_at path) next_of (length path) (forward path) (length path) at (ltb-false at (length path) t)) refl)

  module _ (i : ℕ) where
    pub nth-bad : None ≡ segment_count path → cut ≡ nth_in (steps_of path) i
    unfolding segment_count segments_from
    nth-bad e = bad_by i (steps_of path) e

    pub nth-behind : (n : ℕ) → Some n ≡ segment_count path → n ≤ i → cut ≡ nth_in (steps_of path) i
    unfolding segment_count segments_from
    nth-behind n e h = behind_by i n (steps_of path) e h

  pub reaching_start : (n : ℕ) → Some n ≡ segment_count path → Reaching path 0 0
  unfolding segment_count segments_from
  reaching_start n e = record {
    decodes = decodes_by n (steps_of path) e;
    on = λ k. let p : k ≡ 0 + k = omega arith in ap (nth_in (steps_of path)) p;
    starts = refl;
  }

  module _ (at j : ℕ) (g : Reaching path at j) where
    here : (x : Step) → segment_at path at ≡ x → x ≡ nth_in (steps_of path) j
    here (step s next) e =
        let p = steps_at at s next e in
        let q : j + 0 ≡ j = omega arith in
        rw p (first-before (step s next) (steps_from path next) (rw p at g.decodes)) ∙ g.on 0 ∙ ap (nth_in (steps_of path)) q
    here cut e = let q : j + 0 ≡ j = omega arith in steps-cut at 0 e ∙ g.on 0 ∙ ap (nth_in (steps_of path)) q

    pub reaching_next : (s : Defined) (next : ℕ) → segment_at path at ≡ step s next → Reaching path next (j + 1)
    reaching_next s next e =
        let p = steps_at at s next e in
        let one : j + 1 ≡ suc j = omega arith in
        record {
          decodes = rest-before (step s next) (steps_from path next) (rw p at g.decodes);
          on = λ k. let q : j + suc k ≡ j + 1 + k = omega arith in
              sym (nth-before (step s next) (steps_from path next) k) ∙ rw p at (g.on (suc k)) ∙ ap (nth_in (steps_of path)) q;
          starts = rw one (ap next_of (here (step s next) e));
        }

    pub reaching-cut : (i : ℕ) → j ≤ i → segment_at path at ≡ cut → cut ≡ nth_in (steps_of path) i
    reaching-cut i h e = let l : j + (i - j) ≡ i = omega arith in steps-cut at (i - j) e ∙ g.on (i - j) ∙ ap (nth_in (steps_of path)) l

    pub reaching_end : (i : ℕ) → j ≡ i → (segment_at path at ≡ nth_in (steps_of path) i) × (at ≡ start_in (steps_of path) i)
    reaching_end i e = (here (segment_at path at) refl ∙ ap (nth_in (steps_of path)) e, g.starts ∙ ap (start_in (steps_of path)) e)
