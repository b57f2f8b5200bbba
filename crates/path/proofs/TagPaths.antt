-- The tag path test from a position on, by the segment that the decoder found there.
-- Assumes nothing.
use mathlib.Core.Path.{◌≡◌, refl, sym, ap, ◌∙◌}
use mathlib.Core.Bool.{Bool, true, false}
use mathlib.Core.List.{List, [], ◌∷◌}
use Rattle.std.specs.Prelude.{Option, None, Some}
use Prim.Native.Nat.{ℕ, ◌<◌, ◌≤◌}
use native.Mathlib.Omega.{arith}
use lib.Dec.{ltb, eqb}
use lib.ListN.{length}
use borrow.Author.Tests.{ltb-true, ltb-false}
use Rattle.laws.specs.Pick.{pick, both, is_some}
use Rattle.std.specs.Option.{is_some as std_some}
use Rattle.laws.specs.Items.{before}
use Rattle.laws.proofs.Chain.{by_test, both_off_2, clash}
use Rattle.laws.proofs.Tests.{both-none}
use Rattle.definition.specs.Names.{is_program_name}
use Rattle.definition.specs.Segment.{Segment as Defined, port, class, instance, element, attribute, symbol, Step, step, cut, segment_at, segments_from, class_of, instance_of, name_of}
use Rattle.definition.specs.Request.{object_by, symbol_instance, is_tag_path}
use Rattle.path.specs.declared.Segment.{Segment}
use Rattle.path.specs.declared.Segment.TheVariants.{Port, Class, Instance, Element, Attribute, Symbol}
use Rattle.path.specs.Paths.{segment_of, tag_path_by, tag_path_from, left_of, segments_left, instance_in}
use Rattle.std.proofs.Common.{Bor}
use Rattle.path.proofs.Segments.{segments_end, segments-cut, segments_step, segments_rest, no_head}

-- ---- by a path's first segment, with m what follows: one that is neither a class nor a symbol

plain : (s : Defined) → name_of s ≡ None → class_of s ≡ None → (m : Option (List Defined)) → false ≡ tag_path_by (before s m)
unfolding is_tag_path
plain s e f None = refl
plain s e f (Some []) = rw e
plain s e f (Some (u ∷ l)) = rw (e, f)

-- a class: 0x6B, with an instance behind it
abbrev object_test : ℕ → Step → Bool
object_test c (step s next) = is_some (symbol_instance (object_by (Some c) (instance_of s)))
object_test c cut = false

picked : (t : Bool) (i : ℕ) → both t true ≡ is_some (pick t (Some i) None)
picked true i = refl
picked false i = refl

object_same : (c : ℕ) (x : Step) → both (eqb c 0x6B) (is_some (instance_in x)) ≡ object_test c x
object_same c (step port next) = both-none (eqb c 0x6B)
object_same c (step (class x) next) = both-none (eqb c 0x6B)
object_same c (step (instance x) next) = picked (eqb c 0x6B) x
object_same c (step (element x) next) = both-none (eqb c 0x6B)
object_same c (step (attribute x) next) = both-none (eqb c 0x6B)
object_same c (step (symbol name) next) = both-none (eqb c 0x6B)
object_same c cut = both-none (eqb c 0x6B)

pair_by : (c : ℕ) (s : Defined) (m : Option (List Defined)) → is_some (before s m) ≡ true
    → is_some (symbol_instance (object_by (Some c) (instance_of s))) ≡ tag_path_by (before (class c) (before s m))
unfolding is_tag_path
pair_by c s None h = clash (cc h)
pair_by c s (Some l) h = refl

one_less : (s : Defined) (m : Option (List Defined)) → is_some m ≡ true → left_of m < left_of (before s m)
one_less s None h = clash (cc h)
one_less s (Some l) h = omega arith

-- a symbol: a program name or another
symbol-plain : (name : List ℕ) (m : Option (List Defined)) → is_some m ≡ true → is_program_name name ≡ false → true ≡ tag_path_by (before (symbol name) m)
unfolding is_tag_path
symbol-plain name None h e = sym h
symbol-plain name (Some l) h e = rw e

symbol_alone : (name : List ℕ) → true ≡ tag_path_by (before (symbol name) (Some []))
unfolding is_tag_path
symbol_alone name = rw (both_off_2 (is_program_name name) false refl)

symbol_program : (name : List ℕ) (m : Option (List Defined)) → (m ≡ Some [] → ⊥) → is_program_name name ≡ true
    → tag_path_by m ≡ tag_path_by (before (symbol name) m)
unfolding is_tag_path
symbol_program name None h e = refl
symbol_program name (Some []) h e = absurd (h refl)
symbol_program name (Some (s ∷ l)) h e = rw e

some_same : {A : Type 0} (m : Option A) → std_some m ≡ is_some m
some_same None = refl
some_same (Some x) = refl

-- ---- from a position on

module _ (path : List ℕ) (at : ℕ) where
  tag_at : (s : Defined) (next : ℕ) → segment_at path at ≡ step s next → tag_path_from path at ≡ tag_path_by (before s (segments_from path next))
  unfolding tag_path_from
  tag_at s next e = ap tag_path_by (segments_step path at s next e)

  pair_at : (c : ℕ) → is_some (segments_from path at) ≡ true → (x : Step) → segment_at path at ≡ x
      → object_test c x ≡ tag_path_by (before (class c) (segments_from path at))
  unfolding is_tag_path
  pair_at c h (step s next) e = let g = segments_step path at s next e in rw g (pair_by c s (segments_from path next) (rw g at h))
  pair_at c h cut e =
      by_test (ltb at (length path)) (λ t. clash (cc (rw (segments-cut path at (ltb-true at (length path) t) e) at h)))
      (λ t. rw (segments_end path at (ltb-false at (length path) t)))

  no_tag_lem : (s : Defined) (next : ℕ) → segment_at path at ≡ step s next → ((m : Option (List Defined)) → false ≡ tag_path_by (before s m))
      → false ≡ tag_path_from path at
  no_tag_lem s next e f = f (segments_from path next) ∙ sym (tag_at s next e)

-- by the segment that stands there
module _ (path : List ℕ) (at : ℕ) where
  pub tag-other : (s : Segment) (next : ℕ) → step (segment_of s) next ≡ segment_at path at → ((x : ℕ) → s ≡ Class x → ⊥)
      → ((x : Bor (List ℕ)) → s ≡ Symbol x → ⊥)
      → false ≡ tag_path_from path at
  tag-other Port next e f g = no_tag_lem path at port next (sym e) (plain port refl refl)
  tag-other (Class x) next e f g = absurd (f x refl)
  tag-other (Instance x) next e f g = no_tag_lem path at (instance x) next (sym e) (plain (instance x) refl refl)
  tag-other (Element x) next e f g = no_tag_lem path at (element x) next (sym e) (plain (element x) refl refl)
  tag-other (Attribute x) next e f g = no_tag_lem path at (attribute x) next (sym e) (plain (attribute x) refl refl)
  tag-other (Symbol x) next e f g = absurd (g x refl)

  pub tag-cut : segment_at path at ≡ cut → false ≡ tag_path_from path at
  unfolding tag_path_from is_tag_path
  tag-cut e =
      by_test (ltb at (length path)) (λ t. rw (segments-cut path at (ltb-true at (length path) t) e))
      (λ t. rw (segments_end path at (ltb-false at (length path) t)))

  module _ (decodes : is_some (segments_from path at) ≡ true) where
    pub tag-class : (c next : ℕ) → segment_at path at ≡ step (class c) next
        → both (eqb c 0x6B) (is_some (instance_in (segment_at path next))) ≡ tag_path_from path at
    tag-class c next e =
        object_same c (segment_at path next)
        ∙ pair_at path next c (segments_rest path at (class c) next e decodes) (segment_at path next) refl ∙ sym (tag_at path at (class c) next e)

    pub tag-symbol_object : (c next : ℕ) (r : Option (ℕ × ℕ)) → segment_at path at ≡ step (class c) next → r ≡ instance_in (segment_at path next) → c ≡ 0x6B
        → std_some r ≡ tag_path_from path at
    tag-symbol_object c next r e f k = some_same r ∙ rw f (rw k at (tag-class c next e))

    module _ (name : List ℕ) (next : ℕ) (here : segment_at path at ≡ step (symbol name) next) where
      pub tag_rest : is_some (segments_from path next) ≡ true
      tag_rest = segments_rest path at (symbol name) next here decodes

      pub tag_further : (t : ℕ) → segments_left path at ≡ t → segments_left path next < t
      unfolding segments_left
      tag_further t e = rw (← e, segments_step path at (symbol name) next here) (one_less _ (segments_from path next) tag_rest)

      pub tag_last_lem : length path ≤ next → true ≡ tag_path_from path at
      tag_last_lem h = symbol_alone name ∙ sym (tag_at path at _ next here ∙ ap (λ m. tag_path_by (before (symbol name) m)) (segments_end path next h))

      pub tag-plain : is_program_name name ≡ false → true ≡ tag_path_from path at
      tag-plain f = symbol-plain name (segments_from path next) tag_rest f ∙ sym (tag_at path at _ next here)

      pub tag_program : is_program_name name ≡ true → next < length path → tag_path_from path next ≡ tag_path_from path at
      unfolding tag_path_from
      tag_program f h = symbol_program name (segments_from path next) (λ z. no_head path next z h) f ∙ sym (tag_at path at _ next here)
