-- The segments of a path by their number, counted from 0.
use Rattle.std.specs.Prelude.{◌≡◌, List, [], ◌∷◌, ℕ, zero, suc, length, Option, None, Some}
use Rattle.laws.specs.Items.{items}
use Rattle.definition.specs.Segment.{Segment as Defined, Step, cut, segment_at, next_of, segments}
use Rattle.path.specs.Paths.{step_of, NameInside}
use Rattle.path.specs.declared.Step.{Step as Found}

abbrev pub count_by : Option (List Defined) → Option ℕ
count_by None = None
count_by (Some l) = Some (length l)

-- how many there are; none where the path does not decode
unfoldable pub segment_count : List ℕ → Option ℕ
segment_count path = count_by (segments path)

-- a path's segments, each with the position behind it; none where the path does not decode
abbrev pub steps_of : (path : List ℕ) → Option (List Step)
steps_of path = items (segment_at path) next_of (length path) (length path) 0

-- the step of a number; cut behind the last one
unfoldable pub nth : List Step → ℕ → Step
nth [] i = cut
nth (s ∷ l) zero = s
nth (s ∷ l) (suc i) = nth l i

abbrev pub nth_in : Option (List Step) → ℕ → Step
nth_in None i = cut
nth_in (Some l) i = nth l i

-- where the i-th segment starts: the first at 0, each other where the one before it ends
abbrev pub start_in : Option (List Step) → ℕ → ℕ
start_in steps zero = 0
start_in steps (suc i) = next_of (nth_in steps i)

-- the answer r is the path's i-th segment with the position behind it; a symbol's name starts two bytes behind the segment's start and stands in the path
pub record Nth (path : List ℕ) (i : ℕ) (r : Option Found) : Type 0 where
  pub is : step_of r ≡ nth_in (steps_of path) i
  pub name_inside : NameInside path (start_in (steps_of path) i) r
