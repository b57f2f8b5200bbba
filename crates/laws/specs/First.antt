-- The first of some numbers of which there is something to say.
use Rattle.std.specs.Prelude.{ℕ, zero, suc}
use Rattle.std.specs.Prelude.{Option, None, Some}

abbrev pub or_else : {A : Type 0} → Option A → Option A → Option A
or_else None o = o
or_else (Some a) o = Some a

-- what f says first of `at` and the numbers behind it, `count` of them in all
unfoldable pub first_of : {A : Type 0} → (ℕ → Option A) → (at count : ℕ) → Option A
first_of f at zero = None
first_of f at (suc n) = or_else (f at) (first_of f (suc at) n)
