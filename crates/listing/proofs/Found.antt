-- What a lookup found is a row of its table.
-- Assumes nothing.
use Rattle.std.proofs.Common.{◌≡◌, ℕ, ◌<◌, Bool, eqb, List, length, sym, refl, ap, ◌∙◌, arith}
use Rattle.std.specs.Prelude.{Option, None, Some}
use Rattle.std.specs.Option.{is_some as std_is_some}
use Rattle.laws.specs.Pick.{is_some}
use Rattle.laws.proofs.Chain.{clash, pick_all}
use Rattle.laws.proofs.Tests.{scan-all}
use Rattle.definition.specs.Names.{same_name, is_program_name, after_program}
use Rattle.definition.specs.Tables.{Tables, Row, template_id, program_name}
use Rattle.definition.specs.Lookup.{first, template_in, id_in, program_in, program_of}
use Rattle.model.specs.Rows.{id_is}

abbrev Inside : ℕ → Option ℕ → Type 0
Inside n None = Unit {0}
Inside n (Some i) = i < n

first_inside : (p : Row → Bool) (rows : List Row) → Inside (length rows) (first p rows)
first_inside p rows = scan-all p (Inside (length rows)) Some None 0 rows tt (λ j h. omega arith)

inside_by : (n i : ℕ) (o : Option ℕ) → Some i ≡ o → Inside n o → i < n
inside_by n i None e h = clash (cc e)
inside_by n i (Some j) e h = let k : i ≡ j = cc e in omega arith

pub template_inside : (structures : List Row) (id i : ℕ) → Some i ≡ template_in structures id → i < length structures
unfolding template_in
template_inside structures id i e =
    inside_by (length structures) i (first (λ r. eqb (template_id r) id) structures) e (first_inside (λ r. eqb (template_id r) id) structures)

pub id_inside : (rows : List Row) (scope id i : ℕ) → Some i ≡ id_in rows scope id → i < length rows
unfolding id_in
id_inside rows scope id i e = inside_by (length rows) i (first (id_is scope id) rows) e (first_inside (id_is scope id) rows)

program_lem : (t : Tables) (name : List ℕ) → Inside (length t.programs) (program_of t name)
unfolding program_of program_in
program_lem t name =
    pick_all (Inside (length t.programs)) (is_program_name name) (first_inside (λ r. same_name (program_name t.names r) (after_program name)) t.programs) tt

pub program_inside : (t : Tables) (name : List ℕ) (i : ℕ) → Some i ≡ program_of t name → i < length t.programs
program_inside t name i e = inside_by (length t.programs) i (program_of t name) e (program_lem t name)

-- whether it found one
some_by : (o : Option ℕ) → std_is_some o ≡ is_some o
some_by None = refl
some_by (Some i) = refl

pub found_some : (o p : Option ℕ) (b : Bool) → std_is_some o ≡ b → o ≡ p → b ≡ is_some p
found_some o p b e q = sym e ∙ some_by o ∙ ap is_some q
