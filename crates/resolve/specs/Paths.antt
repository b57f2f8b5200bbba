-- The segments that are left of a path: the first of them, the object that they start with, the run of elements that they start with.
use Rattle.std.specs.Prelude.{◌≡◌, List, [], ◌∷◌, ℕ}
use Rattle.std.specs.Prelude.{Option, None, Some}
use Rattle.definition.specs.Request.{no_object, object_of}
use Rattle.definition.specs.Segment.{Segment as Defined, class, instance, element, element_of, segments_from}
use Rattle.path.specs.Paths.{segment_of}
use Rattle.path.specs.declared.Object.{Object}
use Rattle.path.specs.declared.Segment.{Segment}
use Rattle.resolve.specs.declared.rest.Rest.{Rest}

abbrev pub or_none : Option (List Defined) → List Defined
or_none None = []
or_none (Some l) = l

unfoldable pub left : Rest → List Defined
left r = or_none (segments_from r.path.now r.at)

-- the first segment and what follows it, or there is none
abbrev pub FirstSegment : List Defined → Option (Segment × Rest) → Type 0
FirstSegment l None = l ≡ []
FirstSegment l (Some v) = l ≡ segment_of v.0 ∷ left v.1

-- the object and what follows it, or they start with none
abbrev pub FirstObject : List Defined → Option (Object × Rest) → Type 0
FirstObject l None = object_of l ≡ no_object
FirstObject l (Some v) = l ≡ class v.0.class ∷ (instance v.0.instance ∷ left v.1)

-- the elements that they start with
abbrev pub join_lead : Option ℕ → List ℕ → List ℕ
join_lead None es = []
join_lead (Some e) es = e ∷ es

unfoldable pub leading : List Defined → List ℕ
leading [] = []
leading (s ∷ l) = join_lead (element_of s) (leading l)

-- what follows them
abbrev pub join_behind : Option ℕ → (all rest : List Defined) → List Defined
join_behind None all rest = all
join_behind (Some e) all rest = rest

unfoldable pub behind : List Defined → List Defined
behind [] = []
behind (s ∷ l) = join_behind (element_of s) (s ∷ l) (behind l)

-- the first element and what follows it, or they start with none
abbrev pub FirstElement : List Defined → Option (ℕ × Rest) → Type 0
FirstElement l None = (leading l ≡ []) × (behind l ≡ l)
FirstElement l (Some v) = l ≡ element v.0 ∷ left v.1
