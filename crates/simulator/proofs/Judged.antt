-- Tables of which nothing is told are valid.
-- Assumes nothing.
use Rattle.std.proofs.Common.{◌≡◌, ℕ, true, sym, ap, ◌∙◌}
use Rattle.std.specs.Prelude.{Option, None}
use Rattle.definition.specs.Tables.{Tables}
use Rattle.definition.specs.Valid.{valid}
use Rattle.definition.specs.Breach.{breach}
use Rattle.definition.proofs.Breaches.{none_exactly_where_valid}
use Rattle.tables.specs.Rules.{told_of}
use Rattle.tables.specs.declared.rules.Breach.{Breach}

pub none_valid : (t : Tables) (memory : ℕ) (x : Option Breach) → told_of x ≡ breach t memory → x ≡ None → valid t memory ≡ true
none_valid t memory x e f = (none_exactly_where_valid t memory).0 (sym e ∙ ap told_of f)
