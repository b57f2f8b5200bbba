-- The choice of the service, from the tests that led to it.
-- Assumes nothing.
use mathlib.Core.Path.{◌≡◌, refl, sym, ap, ◌∙◌}
use mathlib.Core.Bool.{Bool, true, false, not}
use mathlib.Core.List.{List, ◌∷◌}
use mathlib.Core.Logic.{◌≢◌}
use Rattle.std.specs.Prelude.{Option, None, Some}
use Prim.Native.Nat.{ℕ}
use lib.Dec.{eqb}
use lib.ListN.{length}
use borrow.Author.Tests.{eq-eqb, ne_eqb}
use Rattle.laws.specs.Pick.{pick, both}
use Rattle.laws.proofs.Chain.{pick-map}
use Rattle.definition.specs.Reply.{Answer, answered}
use Rattle.definition.specs.Segment.{Segment, class, instance, segments}
use Rattle.definition.specs.Request.{object_of, is_tag_path}
use Rattle.definition.specs.Tables.{Tables, Flags}
use Rattle.definition.specs.Lookup.{template_in}
use Rattle.definition.specs.Valid.{valid}
use Rattle.definition.specs.Attributes.{structure_attributes, symbol_attributes}
use Rattle.definition.specs.Answer.{capped, otherwise, is_tag_service, tag_service, by_service, by_object, read_template, plain}
use Rattle.cip.specs.Writes.{Laid}
use Rattle.path.specs.Paths.{tag_path_from, ObjectAt}
use Rattle.path.specs.declared.Object.{Object}
use Rattle.services.specs.declared.Own.{Own}
use Rattle.services.specs.declared.Own.TheVariants as own
use Rattle.model.specs.Tables.{Whatever, WhereValid}
use Rattle.listing.specs.Pages.{list_lent}
use Rattle.listing.specs.Objects.{attributes_lent}
use Rattle.listing.specs.Templates.{template_lent}
use Rattle.definition.specs.Symbols.{list_symbols}
use Rattle.services.specs.Answers.{Answers, OnPath}
use Rattle.services.specs.Services.{own_of, object_is}
use Rattle.services.proofs.Serving.{laid_answers}

-- the object of the path that was decoded
object_is_lem : (path : List ℕ) (o : Option Object) (l : List Segment) → ObjectAt path 0 o → segments path ≡ Some l → object_of l ≡ object_is o
object_is_lem path (Some o) l h s = let e : l ≡ class o.class ∷ (instance o.instance ∷ h.rest) = cc (s, h.is) in rw e
object_is_lem path None l h s = h l s

module _ (tables : Tables) (f : Flags) (memory : List ℕ) (service : ℕ) (path body : List ℕ) (limit : ℕ) (old : List ℕ) (r : ℕ) (new : List ℕ) where
  abbrev By : (after : List ℕ) → Type 0
  By after = OnPath path limit (λ l. by_service tables f memory service l body limit) old r new after

  pub by_page : service ≡ 0x55 → valid tables (length memory) ≡ true
      → WhereValid (list_lent tables) (λ t. (l : List Segment) → segments path ≡ Some l → Laid limit (list_symbols t service l body limit) old r new)
      → By memory
  unfolding by_service
  by_page e ok h = record {
    is = λ l s. rw (eq-eqb service 0x55 e) (laid_answers limit _ old r new memory (h tables (length memory) ok l s));
  }

  module _ (no-page : service ≢ 0x55) (b : Bool) (tagged : b ≡ both (is_tag_service service) (tag_path_from path 0)) where
    tag_test : (l : List Segment) → segments path ≡ Some l → both (is_tag_service service) (is_tag_path l) ≡ b
    unfolding tag_path_from
    tag_test l s = sym (rw s at tagged)

    pub by_tag : b ≡ true → (after : List ℕ) → OnPath path limit (λ l. tag_service tables f memory service l body limit) old r new after → By after
    unfolding by_service
    by_tag e after h = record { is = λ l s. rw (ne_eqb service 0x55 no-page, tag_test l s, e) (h.is l s) }

    pub by_other : b ≡ false → (o : Option Object) → ObjectAt path 0 o → Laid limit (capped service limit (otherwise service (object_is o))) old r new
        → By memory
    unfolding by_service
    by_other e o at h = record {
      is = λ l s. rw (ne_eqb service 0x55 no-page, tag_test l s, e, object_is_lem path o l at s) (laid_answers limit _ old r new memory h);
    }

  -- ---- items 9 to 12

  abbrev by_own : (l : List Segment) → Option Own → Answer
  by_own l (Some (own.SymbolList i)) = answered (capped service limit (symbol_attributes tables service i body)) memory
  by_own l (Some (own.StructureList i)) = answered (capped service limit (structure_attributes tables.structures service i body)) memory
  by_own l (Some (own.Template i)) = answered (read_template tables service (template_in tables.structures i) body limit) memory
  by_own l None = by_service tables f memory service l body limit

  own_is : (o : Option Object) (l : List Segment) → by_object tables f memory service (object_is o) l body limit ≡ by_own l (own_of o service f.micro800)
  own_is (Some o) l =
      let a = both (eqb o.class 0x6B) (both (eqb service 0x03) (not f.micro800)) in
      let b = both (eqb o.class 0x6C) (eqb service 0x03) in
      let d = both (eqb o.class 0x6C) (eqb service 0x4C) in
      let i = o.instance in
      sym (pick-map (by_own l) a (Some (own.SymbolList i)) (pick b (Some (own.StructureList i)) (pick d (Some (own.Template i)) None))
      ∙ ap (pick a (by_own l (Some (own.SymbolList i)))) (pick-map (by_own l) b (Some (own.StructureList i)) (pick d (Some (own.Template i)) None)
      ∙ ap (pick b (by_own l (Some (own.StructureList i)))) (pick-map (by_own l) d (Some (own.Template i)) None)))
  own_is None l = refl

  abbrev Plain : (after : List ℕ) → Type 0
  Plain after = OnPath path limit (λ l. plain tables f memory service l body limit) old r new after

  module _ (o : Option Object) (at : ObjectAt path 0 o) (w : Option Own) (chosen : w ≡ own_of o service f.micro800) where
    plain_own : (after : List ℕ) → ((l : List Segment) → segments path ≡ Some l → Answers limit (by_own l w) old r new after) → Plain after
    unfolding plain
    plain_own after h = record { is = λ l s. rw (object_is_lem path o l at s, own_is o l, ← chosen) (h l s) }

    pub plain-symbols : (i : ℕ) → w ≡ Some (own.SymbolList i)
        → Whatever (attributes_lent tables) (λ t. Laid limit (capped service limit (symbol_attributes t service i body)) old r new) → Plain memory
    plain-symbols i e h = plain_own memory (λ l s. rw e (laid_answers limit _ old r new memory (h tables)))

    pub plain-structures : (i : ℕ) → w ≡ Some (own.StructureList i)
        → Laid limit (capped service limit (structure_attributes tables.structures service i body)) old r new → Plain memory
    plain-structures i e h = plain_own memory (λ l s. rw e (laid_answers limit _ old r new memory h))

    pub plain_template : (i : ℕ) → w ≡ Some (own.Template i)
        → Whatever (template_lent tables) (λ t. Laid limit (read_template t service (template_in t.structures i) body limit) old r new) → Plain memory
    plain_template i e h = plain_own memory (λ l s. rw e (laid_answers limit _ old r new memory (h tables)))

    pub plain_by : w ≡ None → (after : List ℕ) → By after → Plain after
    plain_by e after h = plain_own after (λ l s. rw e (h.is l s))
