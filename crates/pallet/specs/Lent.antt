-- The pallet bench with other tags.
use Rattle.std.specs.Prelude.{List, ℕ}
use Rattle.definition.specs.Tables.{Tables, Row}
use Rattle.definition.specs.Pallet.{pallet}
use Rattle.model.specs.Tables.{tables_from}

unfoldable pub with_tags : (tags : List Row) (tag_names : List ℕ) → Tables
with_tags tags tag_names =
    tables_from pallet.structures pallet.members pallet.programs tags pallet.others pallet.names tag_names pallet.templates
