-- A valid table set is one with the tables that a function is lent, if it has them.
-- Assumes nothing.
use mathlib.Core.Path.{◌≡◌, sym, subst}
use mathlib.Core.Bool.{true}
use Prim.Native.Nat.{ℕ}
use Rattle.definition.specs.Tables.{Tables}
use Rattle.definition.specs.Valid.{valid}
use Rattle.model.specs.Tables.{SomeValid}

pub some-valid : (lent : Tables → Tables) (t : Tables) (memory : ℕ) → valid t memory ≡ true → lent t ≡ t → SomeValid lent
some-valid lent t memory ok has = record { rest = t; memory = memory; ok = subst (λ x. valid x memory ≡ true) (sym has) ok }
