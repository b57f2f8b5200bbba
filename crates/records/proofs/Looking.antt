-- A search over records is the search over the rows that they mean, and what it finds is there.
-- Assumes nothing.
use mathlib.Core.Path.{◌≡◌, refl, ap, ◌∙◌}
use mathlib.Core.Bool.{Bool}
use mathlib.Core.List.{List, [], ◌∷◌}
use Rattle.std.specs.Prelude.{Option, None, Some}
use Prim.Native.Nat.{ℕ, suc, ◌<◌}
use lib.ListN.{get_or, length}
use Rattle.std.specs.Option.{IfSome, MatchOption, IsSomeAnd}
use Rattle.laws.specs.Scan.{scan}
use Rattle.definition.specs.Tables.{Row}
use Rattle.records.specs.declared.Tag.{Tag}
use Rattle.records.specs.declared.Found.{Found}
use Rattle.records.specs.Records.{row_of, rows_of, lookup_of}
use Rattle.records.proofs.Lists.{past_end, tag_read}

module _ (tags : List Tag) where
  made : (r : Option ℕ) (m : Option Found) {P : ℕ → Found → Type 0} → IfSome r (λ i. i < length tags)
      → MatchOption r (m ≡ None) (λ i. IsSomeAnd m (P i)) → ((i : ℕ) (f : Found) → P i f → f ≡ record { at = i; tag = get_or tags i past_end })
      → m ≡ lookup_of tags r
  made None m h e f = e
  made (Some i) None h e f = absurd e
  made (Some i) (Some x) h e f = ap Some (f i x e ∙ ap (λ (t : Tag). record { at = i; tag = t }) (tag_read tags i h))

  module _ (p : Row → Bool) where
    -- from place i on
    over_rows : (i : ℕ) (rest : List Tag) → scan (λ t. p (row_of t)) Some None i rest ≡ scan p Some None i (rows_of rest)
    unfolding scan
    over_rows i [] = refl
    over_rows i (t ∷ rest) = rw (over_rows (suc i) rest) refl

    pub located : (r : Option ℕ) (m : Option Found) {P : ℕ → Found → Type 0} → IfSome r (λ i. i < length tags)
        → MatchOption r (m ≡ None) (λ i. IsSomeAnd m (P i)) → ((i : ℕ) (f : Found) → P i f → f ≡ record { at = i; tag = get_or tags i past_end })
        → r ≡ scan (λ t. p (row_of t)) Some None 0 tags → m ≡ lookup_of tags (scan p Some None 0 (rows_of tags))
    located r m h e f q = made r m h e f ∙ ap (lookup_of tags) (q ∙ over_rows 0 tags)
