-- A run of elements by its number and its last three values, held against three lengths.
use Rattle.std.specs.Prelude.{◌≡◌, Bool, List, [], ◌∷◌, ℕ, ◌+◌, ◌*◌, ◌≤◌, ◌<◌, ltb, eqb, length}
use Rattle.laws.specs.Pick.{pick, both, is_empty}
use Rattle.definition.specs.Reply.{path_error, path_unknown}
use Rattle.definition.specs.Segment.{Segment}
use Rattle.definition.specs.Tables.{Tables, Row}
use Rattle.definition.specs.Types.{size_in}
use Rattle.definition.specs.Valid.{product}
use Rattle.definition.specs.Resolve.{Resolved, found, turned, elements_from}
use Rattle.resolve.specs.declared.places.Place.{Place}
use Rattle.resolve.specs.declared.elements.Run.{Run}
use Rattle.resolve.specs.Paths.{left, leading, behind}
use Rattle.resolve.specs.Places.{first_of, second_of, third_of, open_lengths, place_of}

-- the last three of some values, behind three others
unfoldable pub last_three : (a b c : ℕ) → List ℕ → List ℕ
last_three a b c [] = a ∷ b ∷ c ∷ []
last_three a b c (e ∷ es) = last_three b c e es

-- the run of these values
pub record Holds (es : List ℕ) (r : Run) : Type 0 where
  pub count_is : r.count ≡ length es
  pub last_are : r.last ≡ last_three 0 0 0 es

-- the run that some segments start with
pub record Ran (l : List Segment) (r : Run) : Type 0 where
  pub values_are : Holds (leading l) r
  pub rest_is : left r.rest ≡ behind l

-- as many of the last three values as there are lengths, each below its length
abbrev pub inside_of : (lengths last : List ℕ) → Bool
inside_of ns es =
    pick (eqb (second_of ns) 0) (ltb (third_of es) (first_of ns))
    (pick (eqb (third_of ns) 0) (both (ltb (second_of es) (first_of ns)) (ltb (third_of es) (second_of ns)))
    (both (ltb (first_of es) (first_of ns)) (both (ltb (second_of es) (second_of ns)) (ltb (third_of es) (third_of ns)))))

-- the position that they mean, row-major
abbrev pub position_of : (lengths last : List ℕ) → ℕ
position_of ns es =
    pick (eqb (second_of ns) 0) (third_of es)
    (pick (eqb (third_of ns) 0) (second_of es * second_of ns + third_of es)
    ((first_of es * second_of ns + second_of es) * third_of ns + third_of es))

-- the definition's `index` by a number and three values alone, be they those of a list or not
unfoldable pub index_of : Tables → Place → Run → Resolved
index_of t g r =
    let ns = open_lengths g.lengths in
    pick (is_empty ns) (turned path_error)
    (pick (eqb r.count (length ns))
    (pick (inside_of g.lengths r.last) (found (elements_from t (place_of g) (position_of g.lengths r.last))) (turned path_unknown))
    (turned path_error))

-- what keeps sums and products small
pub record Bounded (structures : List Row) (g : Place) : Type 0 where
  pub some_bytes : 0 < size_in structures g.ty
  pub reach : product (open_lengths g.lengths) ≤ g.count
  pub within : g.start + g.count * size_in structures g.ty ≤ 65536
