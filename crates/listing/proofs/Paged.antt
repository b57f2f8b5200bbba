-- A step of a page: the symbol of the next ID, and its entry.
-- Assumes nothing.
use Rattle.std.proofs.Common.{◌≡◌, ℕ, suc, ◌<◌, ◌≤◌, true, leb, List, [], ◌∷◌, length, get_or, sym, refl, ap, ◌∙◌, leb-true}
use Rattle.std.specs.Prelude.{Option, None, Some}
use Rattle.laws.specs.Tests.{every}
use Rattle.laws.proofs.Tests.{among, both-none, every_at}
use Rattle.definition.specs.Tables.{Tables, tag_access}
use Rattle.definition.specs.Valid.{valid, t1}
use Rattle.definition.specs.Page.{Entry, id_of}
use Rattle.definition.specs.Symbols.{Symbol as Defined, tag_symbol, other_symbol, entry_of, due}
use Rattle.definition.proofs.Facts.{tag-elements}
use Rattle.model.specs.Least.{next_in}
use Rattle.model.specs.Tables.{tables_of, SomeValid, Whatever}
use Rattle.model.specs.declared.tables.Tables.{Tables as Lent}
use Rattle.model.specs.declared.least.Listed.{Listed}
use Rattle.model.specs.declared.least.Next.{Next}
use Rattle.model.specs.declared.least.Next.TheVariants.{Tag, Other}
use Rattle.model.proofs.Due.{NextDue, none_due, tag_due, other_due, next_due}
use Rattle.listing.specs.Entries.{page_lent, tag_lent, other_lent, ListableRow, EntryStep, put_in, left_out, Stepped, more, full, done}
use Rattle.listing.specs.declared.pages.Step.{Step}
use Rattle.listing.specs.declared.pages.Step.TheVariants.{Done}

-- a tag's access is at most 3
access-small : (t : Tables) (memory : ℕ) → valid t memory ≡ true → (i : ℕ) → i < length t.tags → tag_access (get_or t.tags i []) ≤ 3
unfolding valid t1
access-small t memory v i h =
    leb-true _ 3 (every_at (λ r. leb (tag_access r) 3) [] t.tags i (among (every (λ r. leb (tag_access r) 3) t.tags) _ v (λ e. simp (e, both-none))) h)

module _ (t : Tables) (scope bound : ℕ) (attributes : List ℕ) where
  tag-inside : (r : Listed) → NextDue scope attributes t bound (Some (Tag r)) → r.place < length t.tags
  tag-inside r (tag_due h q e) = h

  other-inside : (r : Listed) → NextDue scope attributes t bound (Some (Other r)) → r.place < length t.others
  other-inside r (other_due h q e) = h

  module _ (limit used : ℕ) (old : List ℕ) where
    abbrev Steps : Step → List ℕ → Type 0
    Steps r new = Stepped t scope attributes limit used bound old r new

    stepped_by : (e : Entry) (id : ℕ) → id_of e ≡ id → due t scope attributes bound ≡ e ∷ due t scope attributes (suc id) → (s : Step) (new : List ℕ)
        → EntryStep e limit used old s new → Steps s new
    stepped_by e id q d s new (put_in b u l p) = more e b (d ∙ ap (λ (k : ℕ). e ∷ due t scope attributes k) (rw (b, q))) u l p
    stepped_by e id q d s new (left_out h p) = full e (due t scope attributes (suc id)) d h p

    tag_stepped : (r : Listed) (d : Defined) (s : Step) (new : List ℕ) → NextDue scope attributes t bound (Some (Tag r))
        → d ≡ tag_symbol t (get_or t.tags r.place []) → EntryStep (entry_of attributes d) limit used old s new → Steps s new
    tag_stepped r d s new (tag_due h q e) m x = stepped_by _ r.id q e s new (rw m at x)

    other_stepped : (r : Listed) (d : Defined) (s : Step) (new : List ℕ) → NextDue scope attributes t bound (Some (Other r))
        → d ≡ other_symbol t (get_or t.others r.place []) → EntryStep (entry_of attributes d) limit used old s new → Steps s new
    other_stepped r d s new (other_due h q e) m x = stepped_by _ r.id q e s new (rw m at x)

    none_stepped : (new : List ℕ) → NextDue scope attributes t bound None → new ≡ old → Steps Done new
    none_stepped new (none_due e) p = done e p

module _ (t : Tables) (scope bound : ℕ) where
  abbrev Found : Option Next → Type 0
  Found f = f ≡ next_in t.tags t.others scope bound

  module _ (o : Tables) (memory : ℕ) (v : valid (page_lent t o) memory ≡ true) where
    abbrev set : Tables
    set = page_lent t o

    due_of : (attributes : List ℕ) (f : Option Next) → Found f → NextDue scope attributes set bound f
    due_of attributes f q = rw (← q) at (next_due scope attributes set memory v bound)

    module _ (attributes : List ℕ) (limit used : ℕ) (old : List ℕ) where
      pub tag_step : (f : Next) (r : Listed) (d : Defined) (s : Step) (new : List ℕ) → Found (Some f) → f ≡ Tag r
          → Whatever (tag_lent t) (λ o. d ≡ tag_symbol o (get_or t.tags r.place [])) → EntryStep (entry_of attributes d) limit used old s new
          → Stepped set scope attributes limit used bound old s new
      tag_step f r d s new q e m x =
          tag_stepped set scope bound attributes limit used old r d s new (due_of attributes (Some (Tag r)) (ap Some (sym e) ∙ q)) (m set) x

      pub other_step : (f : Next) (r : Listed) (d : Defined) (s : Step) (new : List ℕ) → Found (Some f) → f ≡ Other r
          → Whatever (other_lent t) (λ o. d ≡ other_symbol o (get_or t.others r.place [])) → EntryStep (entry_of attributes d) limit used old s new
          → Stepped set scope attributes limit used bound old s new
      other_step f r d s new q e m x =
          other_stepped set scope bound attributes limit used old r d s new (due_of attributes (Some (Other r)) (ap Some (sym e) ∙ q)) (m set) x

      pub none_step : Found None → Stepped set scope attributes limit used bound old Done old
      none_step q = none_stepped set scope bound attributes limit used old old (due_of attributes None q) refl

  module _ (w : SomeValid (page_lent t)) where
    here : (f g : Option Next) → Found f → f ≡ g → NextDue scope [] (page_lent t w.rest) bound g
    here f g q e = due_of w.rest w.memory w.ok [] g (sym e ∙ q)

    pub tag_there : (f : Next) (r : Listed) → Found (Some f) → f ≡ Tag r → r.place < length t.tags
    tag_there f r q e = tag-inside (page_lent t w.rest) scope bound [] r (here (Some f) (Some (Tag r)) q (ap Some e))

    pub other_there : (f : Next) (r : Listed) → Found (Some f) → f ≡ Other r → r.place < length t.others
    other_there f r q e = other-inside (page_lent t w.rest) scope bound [] r (here (Some f) (Some (Other r)) q (ap Some e))

    -- its row makes a symbol
    pub tag_listable : (f : Next) (r : Listed) → Found (Some f) → f ≡ Tag r → ListableRow (get_or t.tags r.place [])
    tag_listable f r q e =
        let h = tag_there f r q e in
        (access-small (page_lent t w.rest) w.memory w.ok r.place h, (tag-elements (page_lent t w.rest) w.memory w.ok r.place h).0)

-- what a step found is a row of the tables that are lent
module _ (t : Lent) (w : SomeValid (page_lent (tables_of t))) where
  module _ (scope bound : ℕ) (f : Next) (r : Listed) (q : Some f ≡ next_in t.tags.now t.others.now scope bound) where
    pub tag_inside : f ≡ Tag r → r.place < length t.tags.now
    tag_inside e = tag_there (tables_of t) scope bound w f r q e

    pub other_inside : f ≡ Other r → r.place < length t.others.now
    other_inside e = other_there (tables_of t) scope bound w f r q e

pub ruleset inside = (tag_inside, other_inside)
