-- A value that is led on until a test says that it is done.
use Rattle.std.specs.Prelude.{Bool, ℕ, zero, suc}
use Rattle.laws.specs.Pick.{pick}

-- x itself once it is done, else what comes next, at most n times
unfoldable pub until : {A : Type 0} → (A → Bool) → (A → A) → ℕ → A → A
until done next zero x = x
until done next (suc n) x = pick (done x) x (until done next n (next x))
