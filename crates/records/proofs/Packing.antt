-- What `pack` promises, as a caller of `logix::entry::message` uses it: over the packed rows the definition of a message sees exactly the caller's tags.
-- A caller lends `message` the first n rows, n being what `pack` said, and knows that all tags fitted when n is what `tag_count` says.
-- Assumes nothing.
use mathlib.Core.Path.{◌≡◌, ap, subst, ◌∙◌}
use mathlib.Core.List.{List}
use Rattle.std.specs.Prelude.{Result}
use Prim.Native.Nat.{ℕ}
use native.Mathlib.Omega.{arith}
use lib.ListN.{length, take}
use lib.Seq.{take_all}
use Rattle.definition.specs.Tables.{Tables, Row}
use Rattle.definition.specs.Entry.{entry, Entered}
use Rattle.model.specs.Tables.{tables_from, flags_of}
use Rattle.model.specs.declared.Flags.{Flags}
use Rattle.logix.specs.Entering.{Enters}
use Rattle.logix.specs.declared.entry.Refusal.{Refusal}
use Rattle.records.specs.Records.{rows_of, Packs}
use Rattle.records.specs.declared.Tag.{Tag}
use Rattle.records.proofs.Lists.{rows-count}

module _ (tags : List Tag) (rows : List Row) (n : ℕ) (packed : List Row) (packs : Packs tags rows n packed) (all : n ≡ length (rows_of tags)) where
  -- the rows that the caller lends are the tags' rows
  pub packed_all : take n packed ≡ rows_of tags
  packed_all = packs.first_are ∙ ap rows_of (take_all n tags (omega (arith, all, rows-count tags)))

  module _ (structures members programs others : List Row) (names tag_names templates : List ℕ) where
    abbrev given : List Row → Tables
    given ts = tables_from structures members programs ts others names tag_names templates

    module _ (f : Flags) (memory request : List ℕ) (limit : ℕ) (buffer : List ℕ) where
      abbrev meant : List Row → Entered
      meant ts = entry (given ts) (flags_of f) memory request limit buffer

      -- and what a message over them comes to
      pub packed_entry : meant (take n packed) ≡ meant (rows_of tags)
      packed_entry = ap meant packed_all

      -- so what `message` promises over the packed rows, it promises over the tags
      pub packed_message : (r : Result ℕ Refusal) (buffer' memory' : List ℕ) → Enters (meant (take n packed)) r buffer' memory'
          → Enters (meant (rows_of tags)) r buffer' memory'
      packed_message r buffer' memory' = subst (λ (e : Entered). Enters e r buffer' memory') packed_entry
