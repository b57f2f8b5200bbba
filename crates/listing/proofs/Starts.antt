-- Where a page starts, and a page's answer by its start, its list of attributes and its entries.
-- Assumes nothing.
use Rattle.std.proofs.Common.{Bor, ◌≡◌, ℕ, suc, ◌<◌, ◌≤◌, true, false, leb, List, [], ◌∷◌, length, sym, refl, ap, ◌∙◌, arith, eq-eqb, ne_eqb, leb-true}
use Rattle.std.specs.Prelude.{Option, None, Some}
use Rattle.laws.specs.Pick.{is_some}
use Rattle.laws.specs.Tests.{every}
use Rattle.laws.proofs.Tests.{among, both-none}
use Rattle.definition.specs.Bytes.{counted}
use Rattle.definition.specs.Reply.{fail, path_unknown, too_short, no_attribute}
use Rattle.definition.specs.Segment.{Segment as Defined, port, class, instance, element, attribute, symbol, step, cut, segment_at, segments_from, segments}
use Rattle.definition.specs.Segment.{name_of}
use Rattle.definition.specs.Request.{no_object, object_of}
use Rattle.definition.specs.Tables.{Tables}
use Rattle.definition.specs.Lookup.{program_of}
use Rattle.definition.specs.Valid.{valid, t1}
use Rattle.definition.specs.Page.{page_reply}
use Rattle.definition.specs.Symbols.{Start as DefinedStart, page_start, page_from, is_listed, due, list_symbols}
use Rattle.cip.specs.Writes.{Laid}
use Rattle.path.specs.Paths.{segment_of, ObjectFound, ObjectAt}
use Rattle.path.specs.declared.Segment.{Segment}
use Rattle.path.specs.declared.Segment.TheVariants.{Port, Class, Instance, Element, Attribute, Symbol}
use Rattle.path.specs.declared.Object.{Object}
use Rattle.path.specs.declared.request.Request.{Request}
use Rattle.path.proofs.Segments.{segments_end, segments_rest, no_head, first_at, none_at}
use Rattle.model.specs.Tables.{SomeValid, WhereValid}
use Rattle.model.proofs.Lent.{some-valid}
use Rattle.listing.specs.Entries.{page_lent}
use Rattle.listing.specs.Pages.{scope_lent, list_lent, start_of, start_with, BeginsAt, PageBegins, Lists}
use Rattle.listing.specs.declared.pages.Start.{Start}

-- ---- in a scope: class 0x6B, the start ID and nothing more

no_start : (scope : ℕ) (l : List Defined) → object_of l ≡ no_object → start_with scope l ≡ None
unfolding start_with
no_start scope [] e = refl
no_start scope (a ∷ []) e = refl
no_start scope (a ∷ (b ∷ [])) e = rw e
no_start scope (a ∷ (b ∷ (c ∷ rest))) e = refl

module _ (path : List ℕ) (at scope : ℕ) where
  pub start-none : ObjectAt path at None → BeginsAt path at scope None
  start-none f = record { is = λ l g. no_start scope l (f l g) }

  module _ (o : Object) (x : ObjectFound path at o) where
    begins : (r : Option Start) → start_with scope (class o.class ∷ (instance o.instance ∷ x.rest)) ≡ start_of r → BeginsAt path at scope r
    begins r e = record {
      is = λ l g. let h : class o.class ∷ (instance o.instance ∷ x.rest) ≡ l = cc (sym x.is ∙ g) in rw h at e;
    }

    other-class : (c i : ℕ) (l : List Defined) → (c ≡ 0x6B → ⊥) → start_with scope (class c ∷ (instance i ∷ l)) ≡ None
    unfolding start_with
    other-class c i [] n = rw (ne_eqb c 0x6B n)
    other-class c i (s ∷ l) n = refl

    something_more : (c i : ℕ) (l : List Defined) → (l ≡ [] → ⊥) → start_with scope (class c ∷ (instance i ∷ l)) ≡ None
    unfolding start_with
    something_more c i [] n = absurd (n refl)
    something_more c i (s ∷ l) n = refl

    nothing_more : (c i : ℕ) (l : List Defined) → c ≡ 0x6B → l ≡ [] → start_with scope (class c ∷ (instance i ∷ l)) ≡ Some (record { scope = scope; id = i })
    unfolding start_with
    nothing_more c i l e f = rw (f, eq-eqb c 0x6B e)

    pub start-class : (o.class ≡ 0x6B → ⊥) → BeginsAt path at scope None
    start-class n = begins None (other-class o.class o.instance x.rest n)

    pub start-more : o.next < length path → BeginsAt path at scope None
    start-more h = begins None (something_more o.class o.instance x.rest (λ e. no_head path o.next (x.rest_is ∙ ap Some e) h))

    pub start-well : o.class ≡ 0x6B → length path ≤ o.next → BeginsAt path at scope (Some (record { scope = scope; id = o.instance }))
    start-well e h =
        let n : x.rest ≡ [] = cc (sym x.rest_is ∙ segments_end path o.next h) in
        begins (Some (record { scope = scope; id = o.instance })) (nothing_more o.class o.instance x.rest e n)

pub ruleset in_scope = (start-none, start-class, start-more, start-well)

-- ---- a path's start: behind the name of a known program, or at once

abbrev start_named : Option ℕ → List Defined → Option DefinedStart
start_named None l = None
start_named (Some k) l = start_with (suc k) l

module _ (t : Tables) (name : List ℕ) where
  named : (o : Option ℕ) (l : List Defined) → program_of t name ≡ o → page_start t (symbol name ∷ l) ≡ start_named o l
  unfolding page_start start_with
  named None [] e = refl
  named None (b ∷ []) e = refl
  named None (b ∷ (c ∷ [])) e = rw e
  named None (b ∷ (c ∷ (d ∷ l))) e = refl
  named (Some k) [] e = refl
  named (Some k) (b ∷ []) e = refl
  named (Some k) (b ∷ (c ∷ [])) e = rw e
  named (Some k) (b ∷ (c ∷ (d ∷ l))) e = refl

unnamed : (t : Tables) (s : Defined) (l : List Defined) → name_of s ≡ None → page_start t (s ∷ l) ≡ start_with 0 (s ∷ l)
unfolding page_start start_with
unnamed t s [] e = refl
unnamed t s (b ∷ []) e = refl
unnamed t s (b ∷ (c ∷ [])) e = rw e
unnamed t s (b ∷ (c ∷ (d ∷ l))) e = refl

-- a program is found by two of the tables
program_same : (t o : Tables) (name : List ℕ) → program_of (scope_lent t o) name ≡ program_of t name
unfolding program_of
program_same t o name = refl

module _ (t : Tables) (path : List ℕ) where
  -- a path that starts with a name
  module _ (name : List ℕ) (next : ℕ) (first : segment_at path 0 ≡ step (symbol name) next) where
    pub behind_name : is_some (segments path) ≡ true → is_some (segments_from path next) ≡ true
    behind_name = segments_rest path 0 (symbol name) next first

    by_name : (o : Option ℕ) (r : Option Start) → program_of t name ≡ o
        → ((l : List Defined) → segments_from path next ≡ Some l → start_named o l ≡ start_of r) → PageBegins t path r
    by_name o r e h = record {
      is = λ rest. first_at path 0 (λ l. page_start (scope_lent t rest) l ≡ start_of r) (symbol name) next first
          (λ l g. named (scope_lent t rest) name o l (program_same t rest name ∙ e) ∙ h l g);
    }

    pub named_known : (k : ℕ) (r : Option Start) → Some k ≡ program_of t name → BeginsAt path next (suc k) r → PageBegins t path r
    named_known k r e x = by_name (Some k) r (sym e) x.is

    pub named-unknown : None ≡ program_of t name → PageBegins t path None
    named-unknown e = by_name None None (sym e) (λ l y. refl)

  -- an empty one
  no_segments : (t : Tables) → page_start t [] ≡ None
  unfolding page_start
  no_segments t = refl

  pub start-empty : cut ≡ segment_at path 0 → PageBegins t path None
  start-empty e = record {
    is = λ o. none_at path 0 (λ l. page_start (scope_lent t o) l ≡ None) (sym e) (no_segments (scope_lent t o));
  }

  -- one that starts with another segment
  module _ (r : Option Start) (x : BeginsAt path 0 0 r) where
    at_once : (u : Defined) (next : ℕ) → segment_at path 0 ≡ step u next → name_of u ≡ None → PageBegins t path r
    at_once u next e n = record {
      is = λ o l g. first_at path 0 (λ l. segments path ≡ Some l → page_start (scope_lent t o) l ≡ start_of r) u next e
          (λ l y z. unnamed (scope_lent t o) u l n ∙ x.is (u ∷ l) z) l g g;
    }

    pub start_plain : (s : Segment) (next : ℕ) → step (segment_of s) next ≡ segment_at path 0 → ((name : Bor (List ℕ)) → s ≡ Symbol name → ⊥)
        → PageBegins t path r
    start_plain Port k e n = at_once port k (sym e) refl
    start_plain (Class y) k e n = at_once (class y) k (sym e) refl
    start_plain (Instance y) k e n = at_once (instance y) k (sym e) refl
    start_plain (Element y) k e n = at_once (element y) k (sym e) refl
    start_plain (Attribute y) k e n = at_once (attribute y) k (sym e) refl
    start_plain (Symbol name) k e n = absurd (n name refl)

-- ---- the answer

module _ (t : Tables) (q : Request) (limit : ℕ) (old new : List ℕ) (r : ℕ) where
  lists_by : (b : Option Start) → PageBegins t q.path.now b
      → WhereValid (list_lent t) (λ t. Laid limit (page_from t q.service (start_of b) q.body.now limit) old r new) → Lists t q limit old r new
  unfolding list_symbols
  lists_by b starts h = record { is = λ o memory v l g. rw (starts.is (list_lent t o) l g) (h o memory v) }

  pub lists-unknown : PageBegins t q.path.now None → Laid limit (fail q.service path_unknown) old r new → Lists t q limit old r new
  lists-unknown starts h = lists_by None starts (λ o memory v. h)

  module _ (s : Start) (starts : PageBegins t q.path.now (Some s)) where
    pub lists-missing : None ≡ counted q.body.now → Laid limit (fail q.service too_short) old r new → Lists t q limit old r new
    lists-missing e h = lists_by (Some s) starts (λ o memory v. rw (← e) h)

    module _ (list : List ℕ) (is : Some list ≡ counted q.body.now) where
      pub lists-refused : false ≡ every is_listed list → Laid limit (fail q.service no_attribute) old r new → Lists t q limit old r new
      lists-refused e h = lists_by (Some s) starts (λ o memory v. rw (← is, ← e) h)

      pub lists_page : true ≡ every is_listed list
          → WhereValid (page_lent t) (λ t. Laid limit (page_reply q.service (due t s.scope list s.id) limit) old r new) → Lists t q limit old r new
      lists_page e h = lists_by (Some s) starts (λ o memory v. rw (← is, ← e) (h (list_lent t o) memory v))

module _ (t : Tables) (w : SomeValid (list_lent t)) where
  pub page_valid : SomeValid (page_lent t)
  page_valid = some-valid _ _ _ w.ok refl

  pub few-programs : length t.programs ≤ 65535
  unfolding valid t1
  few-programs = omega (arith, leb-true (length t.programs) 16 (among (leb (length t.programs) 16) _ w.ok (λ e. simp (e, both-none))))
