-- The rows of a table image: words of 32 bits one behind the other, row by row.
use Rattle.std.specs.Prelude.{List, [], ◌∷◌, ℕ, zero, suc, ◌+◌, ◌*◌}
use Rattle.definition.specs.Bytes.{u32_at}

-- k words of 32 bits, the least byte first, from a position on
unfoldable pub words_at : (src : List ℕ) (at k : ℕ) → List ℕ
words_at src at zero = []
words_at src at (suc k) = u32_at src at ∷ words_at src (at + 4) k

-- n rows of so many words each, from a position on
unfoldable pub rows_at : (src : List ℕ) (at width n : ℕ) → List (List ℕ)
rows_at src at width zero = []
rows_at src at width (suc n) = words_at src at width ∷ rows_at src (at + 4 * width) width n
