-- A list with another in the place of a part of it, and a buffer that begins with a list, goes on with zeros and then is as it was.
use Rattle.std.specs.Prelude.{◌≡◌, List, ◌++◌, ℕ, ◌+◌, ◌-◌, length, take, drop, replicate}

-- xs with ys in the place of what stood from `at` on
unfoldable pub put : List ℕ → ℕ → List ℕ → List ℕ
put xs at ys = take at xs ++ ys ++ drop (at + length ys) xs

-- ys, zeros up to m, and then what `old` had
unfoldable pub laid : ℕ → List ℕ → List ℕ → List ℕ
laid m old ys = ys ++ (replicate (m - length ys) 0 ++ drop m old)

-- zeros from `at` up to m
unfoldable pub zeroed : ℕ → ℕ → List ℕ → List ℕ
zeroed at m xs = take at xs ++ (replicate (m - at) 0 ++ drop m xs)

-- free up to m, and as it was from there on
abbrev pub KeptFrom : (m : ℕ) (old new : List ℕ) → Type 0
KeptFrom m old new = (drop m new ≡ drop m old) × (length new ≡ length old)
