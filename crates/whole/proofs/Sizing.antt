-- What a read selects, by the path's checks and the target.
-- Assumes nothing.
use Rattle.std.proofs.Common.{◌≡◌, ℕ, ◌*◌, true, false, eqb, List, [], length, sym, refl, ap, ◌∙◌}
use Rattle.std.specs.Prelude.{Option, None, Some, Result, Ok, Err}
use Rattle.laws.specs.Pick.{is_some}
use Rattle.laws.proofs.Chain.{by_test, clash}
use Rattle.laws.proofs.Put.{length_part}
use Rattle.definition.specs.Segment.{Segment, segments}
use Rattle.definition.specs.Tables.{Tables, Flags, Row, no_bit}
use Rattle.definition.specs.Valid.{valid}
use Rattle.definition.specs.Access.{tag_target}
use Rattle.definition.specs.Read.{selected_bytes, selection, ask, ask_target}
use Rattle.path.specs.Nth.{count_by, segment_count}
use Rattle.path.specs.Paths.{tag_path_by, tag_path_from}
use Rattle.model.specs.Tables.{target_of, Aimed}
use Rattle.model.specs.declared.Target.{Target}
use Rattle.resolve.specs.Answers.{Targets}
use Rattle.resolve.proofs.Answering.{found_aimed}
use Rattle.cip.specs.declared.Status.{Status}
use Rattle.reads.specs.Reading.{grant_of, asked_by}
use Rattle.reads.proofs.Reading.{ask_by, granted-few, header-length}
use Rattle.reads.proofs.Aiming.{aimed_inside}
use Rattle.whole.specs.declared.sizes.Size.{Size}
use Rattle.whole.specs.Whole.{if_granted, chosen_by, chosen}
use Rattle.whole.specs.Parts.{sized_of, sized_by}

-- ---- the target

module _ (structures : List Row) (memory : List ℕ) (g : Target) (elements : ℕ) (aimed : Aimed structures (length memory) g) where
  size_by : (v : Result (Unit {0}) Status) → v ≡ grant_of g.bit g.count elements
      → sized_by g elements v ≡ sized_of memory (if_granted (asked_by (selection structures (target_of g []) elements) v))
  unfolding selection selected_bytes sized_of
  size_by (Err status) e = refl
  size_by (Ok granted) e =
      let few = granted-few g.bit g.count elements (Ok tt) aimed.some_elements e refl in
      let l = length_part memory g.start (elements * g.size) (aimed_inside structures (length memory) g aimed elements few) in
      let k = aimed.size_is in
      by_test (eqb g.bit no_bit)
      (λ b. rw (b, header-length structures g.ty, ← k, l) refl)
      (λ b. rw (b, header-length structures g.ty) refl)

  pub target-size : sized_by g elements (grant_of g.bit g.count elements) ≡ sized_of memory (if_granted (ask structures (target_of g []) elements))
  target-size = size_by (grant_of g.bit g.count elements) refl ∙ ap (λ a. sized_of memory (if_granted a)) (sym (ask_by structures (target_of g []) elements))

-- ---- the path

-- what its segments are counted to says whether it decodes
module _ (path : List ℕ) where
  pub uncounted : segment_count path ≡ None → segments path ≡ None
  unfolding segment_count
  uncounted e = go (segments path) e
    where
      go : (o : Option (List Segment)) → count_by o ≡ None → o ≡ None
      go None q = refl
      go (Some l) q = clash (cc q)

  pub counted-some : (n : ℕ) → segment_count path ≡ Some n → is_some (segments path) ≡ true
  unfolding segment_count
  counted-some n e = go (segments path) e
    where
      go : (o : Option (List Segment)) → count_by o ≡ Some n → is_some o ≡ true
      go None q = clash (cc q)
      go (Some l) q = refl

module _ (t : Tables) (f : Flags) (memory path : List ℕ) (elements : ℕ) where
  pub size-cut : segments path ≡ None → None ≡ sized_of memory (chosen t f path elements)
  unfolding chosen sized_of
  size-cut e = rw e refl

  pub size_no_tag : false ≡ tag_path_from path 0 → None ≡ sized_of memory (chosen t f path elements)
  unfolding chosen tag_path_from sized_of
  size_no_tag e = go (segments path) e
    where
      go : (o : Option (List Segment)) → false ≡ tag_path_by o → None ≡ sized_of memory (chosen_by t f elements o)
      go None k = refl
      go (Some l) k = rw (← k) refl

  -- of a tag path the target decides
  module _ (tag : true ≡ tag_path_from path 0) where
    by_target : (v : Option Size)
        → ((l : List Segment) → segments path ≡ Some l → v ≡ sized_of memory (if_granted (ask_target t.structures (tag_target t f false l) elements)))
        → v ≡ sized_of memory (chosen t f path elements)
    unfolding chosen tag_path_from
    by_target v by = go (segments path) refl tag
      where
        go : (o : Option (List Segment)) → segments path ≡ o → true ≡ tag_path_by o → v ≡ sized_of memory (chosen_by t f elements o)
        go None d k = clash (cc k)
        go (Some l) d k = rw (← k) (by l d)

    pub size-turned : (s : Status) → Targets t f false path (Err s) → None ≡ sized_of memory (chosen t f path elements)
    unfolding sized_of
    size-turned s r = by_target None (λ l d. rw (r.is t l d) refl)

    module _ (g : Target) (r : Targets t f false path (Ok g)) (ok : valid t (length memory) ≡ true) (decodes : is_some (segments path) ≡ true) where
      pub size_aimed : Aimed t.structures (length memory) g
      size_aimed = found_aimed t path f false g (length memory) ok decodes r

      pub size_found : (v : Option Size) → v ≡ sized_by g elements (grant_of g.bit g.count elements) → v ≡ sized_of memory (chosen t f path elements)
      unfolding ask selection
      size_found v sized = by_target v (λ l d. rw (r.is t l d).is (sized ∙ target-size t.structures memory g elements size_aimed))
