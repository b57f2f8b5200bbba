-- A tag's lengths as three numbers: as a page lists them (`listed_lengths`), and as indexes are held against them (`index_lengths`, zeros behind them).
use Rattle.std.specs.Prelude.{Bool, not, List, [], ◌∷◌, ℕ, eqb, get_or}
use Rattle.laws.specs.Pick.{pick, both}
use Rattle.definition.specs.Tables.{Row, tag_type, tag_elements, field, nonzero}
use Rattle.definition.specs.Types.{DWORD}

abbrev pub dword_array : (type first : ℕ) → Bool
dword_array type first = both (eqb type DWORD) (not (eqb first 0))

abbrev pub listed3 : (type : ℕ) (lengths : List ℕ) (elements : ℕ) → List ℕ
listed3 type lengths elements = pick (dword_array type (get_or lengths 0 0)) (elements ∷ 0 ∷ 0 ∷ []) lengths

abbrev pub cut3 : List ℕ → List ℕ
cut3 ns = pick (eqb (get_or ns 0 0) 0) (0 ∷ 0 ∷ 0 ∷ []) (pick (eqb (get_or ns 1 0) 0) (get_or ns 0 0 ∷ 0 ∷ 0 ∷ []) ns)

abbrev pub indexed3 : (type : ℕ) (lengths : List ℕ) (elements : ℕ) → List ℕ
indexed3 type lengths elements = pick (dword_array type (get_or lengths 0 0)) (elements ∷ 0 ∷ 0 ∷ []) (cut3 lengths)

abbrev pub lengths3 : Row → List ℕ
lengths3 r = field 5 r ∷ field 6 r ∷ field 7 r ∷ []

-- those up to the first 0
abbrev pub nonzero3 : List ℕ → List ℕ
nonzero3 ns = nonzero (get_or ns 0 0 ∷ get_or ns 1 0 ∷ get_or ns 2 0 ∷ [])

unfoldable pub shapes_of : Row → List (List ℕ)
shapes_of r = listed3 (tag_type r) (lengths3 r) (tag_elements r) ∷ indexed3 (tag_type r) (lengths3 r) (tag_elements r) ∷ []
