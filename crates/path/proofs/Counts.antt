-- A count of a path's segments that has come to a position: it goes on, ends, or meets a bad segment.
-- Assumes nothing.
use mathlib.Core.Path.{◌≡◌, refl, ap, ◌∙◌}
use mathlib.Core.List.{List, [], ◌∷◌}
use Rattle.std.specs.Prelude.{Option, None, Some}
use Prim.Native.Nat.{ℕ, ◌+◌, ◌-◌, ◌<◌, ◌≤◌, zero-le}
use native.Mathlib.Nat.{zero-add}
use native.Mathlib.Omega.{arith}
use lib.ListN.{length}
use Rattle.laws.specs.Items.{each, over}
use Rattle.laws.proofs.Chain.{falls_to, count_to}
use Rattle.definition.specs.Segment.{Segment as Defined, step, cut, segment_at, segments_from}
use Rattle.path.specs.Nth.{count_by, segment_count}
use Rattle.path.proofs.Forward.{step_inside}
use Rattle.path.proofs.Segments.{segment_next, segment_bad, segment_end}

abbrev pub one : Defined → ℕ → ℕ
one s k = k + 1

counted : (k : ℕ) (l : List Defined) → each one k l ≡ k + length l
unfolding each
counted k [] = omega arith
counted k (s ∷ l) = counted (k + 1) l ∙ omega arith

count_by_lem : (m : Option (List Defined)) → over one (λ k. Some k) None 0 m ≡ count_by m
unfolding over
count_by_lem None = refl
count_by_lem (Some l) = ap Some (counted 0 l ∙ zero-add (length l))

count_start : (path : List ℕ) → over one (λ k. Some k) None 0 (segments_from path 0) ≡ segment_count path
unfolding segment_count
count_start path = count_by_lem (segments_from path 0)

-- the segments from here on, counted from k, are the path's; no segment is empty, so there are no more of them than bytes
pub record Counting (path : List ℕ) (at k : ℕ) : Type 0 where
  pub below : k ≤ at
  pub same : over one (λ k. Some k) None k (segments_from path at) ≡ segment_count path

module _ (path : List ℕ) where
  pub going_start : Counting path 0 0
  going_start = record { below = zero-le; same = count_start path }

  module _ (at k : ℕ) (g : Counting path at k) where
    pub going_end : length path ≤ at → Some k ≡ segment_count path
    going_end h = segment_end one (λ k. Some k) None (segment_count path) path k at g.same (Some k) h refl

    pub going_bad : at < length path → segment_at path at ≡ cut → None ≡ segment_count path
    going_bad h e = segment_bad one (λ k. Some k) None (segment_count path) path k at g.same None h e refl

    module _ (s : Defined) (n : ℕ) (e : segment_at path at ≡ step s n) where
      pub going_next : Counting path n (k + 1)
      going_next = record {
        below = count_to k at n g.below (step_inside path at s n e).0;
        same = segment_next one (λ k. Some k) None (segment_count path) path k at g.same s n (k + 1) e refl;
      }

      pub going_less : at < length path → length path - n < length path - at
      going_less h = falls_to (length path) at n h (step_inside path at s n e).0
