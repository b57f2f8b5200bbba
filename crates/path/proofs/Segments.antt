-- A path's segments from a position on: none past the end, else the one that stands there and those behind it; and loops over them.
-- Assumes nothing.
use mathlib.Core.Path.{◌≡◌, refl, sym, ap, ◌∙◌}
use mathlib.Core.Bool.{true}
use mathlib.Core.List.{List, [], ◌∷◌}
use Rattle.std.specs.Prelude.{Option, None, Some}
use Prim.Native.Nat.{ℕ, ◌<◌, ◌≤◌}
use native.Mathlib.Omega.{arith}
use lib.Dec.{ltb}
use lib.ListN.{length}
use borrow.Author.Tests.{ltb-true, ltb-false}
use Rattle.laws.specs.Pick.{is_some}
use Rattle.laws.specs.Items.{before, items, each, over}
use Rattle.laws.proofs.Chain.{by_test, clash}
use Rattle.laws.proofs.Items.{items_at, items_bad, items_end, over-before}
use Rattle.definition.specs.Segment.{Segment as Defined, Step, step, cut, segment_at, next_of, segment_of, only_segments, segments_from}
use Rattle.path.specs.Paths.{segment_of as defined}
use Rattle.path.specs.declared.Segment.{Segment}
use Rattle.path.proofs.Forward.{forward, step_inside}

only_before : (s : Step) (m : Option (List Step)) → only_segments (before s m) ≡ before (segment_of s) (only_segments m)
only_before s None = refl
only_before s (Some l) = refl

module _ (path : List ℕ) where
  pub segments_end : (at : ℕ) → length path ≤ at → segments_from path at ≡ Some []
  unfolding segments_from
  segments_end at h = rw (items_end (segment_at path) next_of (length path) (forward path) (length path) at h)

  pub segments-cut : (at : ℕ) → at < length path → segment_at path at ≡ cut → segments_from path at ≡ None
  unfolding segments_from
  segments-cut at h e = rw (items_bad (segment_at path) next_of (length path) (forward path) (length path) at (omega arith) h (ap next_of e))

  pub segments_step : (at : ℕ) (s : Defined) (next : ℕ) → segment_at path at ≡ step s next → segments_from path at ≡ before s (segments_from path next)
  unfolding segments_from
  segments_step at s next e =
      let i = step_inside path at s next e in
      let n : next_of (segment_at path at) ≡ 0 → ⊥ = λ z. absurd (omega (arith, i.0, sym (ap next_of e) ∙ z)) in
      ap only_segments (items_at (segment_at path) next_of (length path) (forward path) (length path) at (omega arith) (omega (arith, i.0, i.1)) n)
      ∙ rw e (only_before (step s next) (items (segment_at path) next_of (length path) (length path) next))

  pub segments_next : (at : ℕ) (s : Defined) (next : ℕ) (l : List Defined) → segment_at path at ≡ step s next → segments_from path next ≡ Some l
      → segments_from path at ≡ Some (s ∷ l)
  segments_next at s next l e g = segments_step at s next e ∙ ap (before s) g

-- the other way: where there are segments and the path goes on, one stands here and the others behind it
pub record Head (path : List ℕ) (at : ℕ) (l : List Defined) : Type 0 where
  pub first : Defined
  pub next : ℕ
  pub rest : List Defined
  pub all : l ≡ first ∷ rest
  pub at_first : segment_at path at ≡ step first next
  pub further : at < next
  pub others : segments_from path next ≡ Some rest

module _ (path : List ℕ) (at : ℕ) where
  head_by : (l : List Defined) (s : Defined) (next : ℕ) → segment_at path at ≡ step s next → (m : Option (List Defined)) → segments_from path next ≡ m
      → before s m ≡ Some l → Head path at l
  head_by l s next e None f g = clash (cc g)
  head_by l s next e (Some rest) f g =
      record { first = s; next = next; rest = rest; all = cc g; at_first = e; further = (step_inside path at s next e).0; others = f }

  head_at : (l : List Defined) → segments_from path at ≡ Some l → at < length path → (x : Step) → segment_at path at ≡ x → Head path at l
  head_at l g h (step s next) e = head_by l s next e (segments_from path next) refl (sym (segments_step path at s next e) ∙ g)
  head_at l g h cut e = clash (cc (sym (segments-cut path at h e) ∙ g))

  pub segments_head : (l : List Defined) → segments_from path at ≡ Some l → at < length path → Head path at l
  segments_head l g h = head_at l g h (segment_at path at) refl

  -- where the path goes on there are some
  pub no_head : segments_from path at ≡ Some [] → at < length path → ⊥
  no_head e h = clash (cc (segments_head [] e h).all)

  -- the rest of a path that decodes decodes
  some_before : (s : Defined) (m : Option (List Defined)) → is_some (before s m) ≡ true → is_some m ≡ true
  some_before s None e = e
  some_before s (Some l) e = refl

  pub segments_rest : (s : Defined) (next : ℕ) → segment_at path at ≡ step s next → is_some (segments_from path at) ≡ true
      → is_some (segments_from path next) ≡ true
  segments_rest s next e h = some_before s (segments_from path next) (rw (segments_step path at s next e) at h)

-- what holds of the segments from a position on, by the first of them
module _ (path : List ℕ) (at : ℕ) (P : List Defined → Type 0) where
  first_by : (s : Defined) (m : Option (List Defined)) → ((l : List Defined) → m ≡ Some l → P (s ∷ l)) → (l : List Defined) → before s m ≡ Some l → P l
  first_by s None f l e = clash (cc e)
  first_by s (Some k) f l e = let h : s ∷ k ≡ l = cc e in rw h at (f k refl)

  pub first_at : (s : Defined) (next : ℕ) → segment_at path at ≡ step s next → ((l : List Defined) → segments_from path next ≡ Some l → P (s ∷ l))
      → (l : List Defined) → segments_from path at ≡ Some l → P l
  first_at s next e f l g = first_by s (segments_from path next) f l (sym (segments_step path at s next e) ∙ g)

  pub none_at : segment_at path at ≡ cut → P [] → (l : List Defined) → segments_from path at ≡ Some l → P l
  none_at e p l g =
      by_test (ltb at (length path)) (λ t. clash (cc (sym (segments-cut path at (ltb-true at (length path) t) e) ∙ g)))
      (λ t. let h : [] ≡ l = cc (sym (segments_end path at (ltb-false at (length path) t)) ∙ g) in rw h at p)

-- ---- a loop: the invariant is `over g done bad s (segments_from path at) ≡ v`

module _ {S R : Type 0} (g : Defined → S → S) (done : S → R) (bad v : R) (path : List ℕ) (s : S) (at : ℕ)
    (here : over g done bad s (segments_from path at) ≡ v) where
  pub segment_next : (a : Defined) (next : ℕ) (t : S) → segment_at path at ≡ step a next → t ≡ g a s → over g done bad t (segments_from path next) ≡ v
  segment_next a next t e q =
      rw q (sym (over-before g done bad s a (segments_from path next)) ∙ ap (over g done bad s) (sym (segments_step path at a next e)) ∙ here)

  pub segment_bad : (w : R) → at < length path → segment_at path at ≡ cut → w ≡ bad → w ≡ v
  unfolding over
  segment_bad w h e q = q ∙ rw (segments-cut path at h e) at here

  pub segment_end : (w : R) → length path ≤ at → w ≡ done s → w ≡ v
  unfolding over each
  segment_end w h q = q ∙ rw (segments_end path at h) at here

-- ---- the segment that `segment_at` found is x

pub found_at : (path : List ℕ) (at next : ℕ) (s x : Segment) → step (defined s) next ≡ segment_at path at → s ≡ x → segment_at path at ≡ step (defined x) next
found_at path at next s x is e = sym is ∙ rw e
