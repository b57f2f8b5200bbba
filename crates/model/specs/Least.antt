-- The search for the least ID not below a bound, over the rows of a scope, from the last to the first; the proofs' Least ties it to `due`.
use Rattle.std.specs.Prelude.{List, ℕ, Option, None, Some, ltb, leb, eqb}
use Rattle.laws.specs.Pick.{pick, both}
use Rattle.laws.specs.Fold.{fold}
use Rattle.definition.specs.Tables.{Row, tag_scope, tag_id}
use Rattle.model.specs.declared.least.Listed.{Listed}
use Rattle.model.specs.declared.least.Next.{Next}
use Rattle.model.specs.declared.least.Next.TheVariants.{Tag, Other}

abbrev pub listed : (place id : ℕ) → Listed
listed place id = record { place = place; id = id }

-- a row before others: it, unless they have a lower ID
abbrev pub nearer : Listed → Option Listed → Listed
nearer here None = here
nearer here (Some other) = pick (ltb here.id other.id) here other

abbrev pub least_row : (scope bound place : ℕ) → Row → Option Listed → Option Listed
least_row scope bound place r rest =
    pick (both (eqb (tag_scope r) scope) (leb bound (tag_id r))) (Some (nearer (listed place (tag_id r)) rest)) rest

unfoldable pub least_in : (scope bound : ℕ) → List Row → Option Listed
least_in scope bound rows = fold (least_row scope bound) None 0 rows

-- the nearer of a tag and another symbol
abbrev pub nearest : Option Listed → Option Listed → Option Next
nearest None None = None
nearest None (Some o) = Some (Other o)
nearest (Some t) None = Some (Tag t)
nearest (Some t) (Some o) = pick (ltb t.id o.id) (Some (Tag t)) (Some (Other o))

abbrev pub next_in : (tags others : List Row) (scope bound : ℕ) → Option Next
next_in tags others scope bound = nearest (least_in scope bound tags) (least_in scope bound others)
