-- What is left of a path: its first segment and what follows it, no more of them than bytes, and the run of elements that they start with.
-- Assumes nothing.
use mathlib.Core.Path.{◌≡◌, refl, sym, ap, ◌∙◌}
use mathlib.Core.Bool.{true, false}
use mathlib.Core.List.{List, [], ◌∷◌}
use Rattle.std.specs.Prelude.{Option, None, Some}
use Rattle.std.proofs.Common.{Bor}
use Prim.Native.Nat.{ℕ, ◌+◌, ◌-◌, ◌<◌, ◌≤◌}
use native.Mathlib.Omega.{arith}
use lib.Dec.{ltb}
use lib.ListN.{length}
use borrow.Author.Tests.{ltb-true, ltb-false}
use Rattle.laws.specs.Pick.{is_some, is_empty}
use Rattle.laws.specs.Items.{before}
use Rattle.laws.proofs.Chain.{by_test, clash}
use Rattle.definition.specs.Segment.{Segment as Defined, port, class, instance, element, attribute, symbol, step, cut, segment_at, segments_from, element_of, name_of}
use Rattle.definition.specs.Resolve.{indexes, join_run, moves}
use Rattle.path.proofs.Forward.{step_inside}
use Rattle.path.proofs.Segments.{segments_end, segments-cut, segments_step, segments_rest, segments_head, no_head}
use Rattle.path.specs.Paths.{segment_of}
use Rattle.path.specs.declared.Segment.{Segment}
use Rattle.path.specs.declared.Segment.TheVariants.{Port, Class, Instance, Element, Attribute, Symbol}
use Rattle.resolve.specs.declared.elements.Run.{Run}
use Rattle.resolve.specs.declared.rest.Rest.{Rest}
use Rattle.resolve.specs.Paths.{or_none, left, leading, behind, FirstElement}
use Rattle.resolve.specs.Places.{first_of, second_of, third_of}
use Rattle.resolve.specs.Runs.{last_three, Ran}

or_before : (s : Defined) (m : Option (List Defined)) → is_some m ≡ true → or_none (before s m) ≡ s ∷ or_none m
or_before s None e = clash (cc e)
or_before s (Some l) e = refl

pub some_or : (m : Option (List Defined)) → is_some m ≡ true → m ≡ Some (or_none m)
some_or None e = clash (cc e)
some_or (Some l) e = refl

pub no_items : (l : List Defined) → is_empty l ≡ true → l ≡ []
no_items [] e = refl
no_items (s ∷ l) e = clash (cc e)

-- ---- what a segment is not

pub no_element : (s : Segment) → ((x : ℕ) → s ≡ Element x → ⊥) → element_of (segment_of s) ≡ None
no_element Port n = refl
no_element (Class x) n = refl
no_element (Instance x) n = refl
no_element (Element x) n = absurd (n x refl)
no_element (Attribute x) n = refl
no_element (Symbol x) n = refl

pub no_name : (s : Segment) → ((x : Bor (List ℕ)) → s ≡ Symbol x → ⊥) → name_of (segment_of s) ≡ None
no_name Port n = refl
no_name (Class x) n = refl
no_name (Instance x) n = refl
no_name (Element x) n = refl
no_name (Attribute x) n = refl
no_name (Symbol x) n = absurd (n x refl)

-- ---- the rest of a path

module _ (r : Rest) where
  pub left_some : segments_from r.path.now r.at ≡ Some (left r)
  unfolding left
  left_some = some_or (segments_from r.path.now r.at) r.decodes

  pub left_end : length r.path.now ≤ r.at → left r ≡ []
  unfolding left
  left_end h = rw (segments_end r.path.now r.at h)

  pub left_open : r.at < length r.path.now → is_empty (left r) ≡ false
  left_open h = some (left r) refl
    where
      some : (l : List Defined) → left r ≡ l → is_empty l ≡ false
      some [] e = absurd (no_head r.path.now r.at (left_some ∙ ap Some e) h)
      some (s ∷ l) e = refl

  pub left_cut : segment_at r.path.now r.at ≡ cut → left r ≡ []
  left_cut e =
      by_test (ltb r.at (length r.path.now)) (λ t. clash (cc (rw (segments-cut r.path.now r.at (ltb-true r.at (length r.path.now) t) e) at r.decodes)))
      (λ t. left_end (ltb-false r.at (length r.path.now) t))

  pub left_step : (s : Defined) (next : ℕ) → segment_at r.path.now r.at ≡ step s next → left r ≡ s ∷ or_none (segments_from r.path.now next)
  unfolding left
  left_step s next e =
      ap or_none (segments_step r.path.now r.at s next e)
      ∙ or_before s (segments_from r.path.now next) (segments_rest r.path.now r.at s next e r.decodes)

-- no segment is empty, so there are no more of them than bytes
few_by : (path : List ℕ) (at : ℕ) (l : List Defined) → segments_from path at ≡ Some l → length l ≤ length path - at
few_by path at [] e = omega arith
few_by path at (s ∷ l) e =
    by_test (ltb at (length path))
    (λ t.
    let h = segments_head path at (s ∷ l) e (ltb-true at (length path) t) in
    let same : h.rest ≡ l = cc (sym h.all) in
    let i = step_inside path at h.first h.next h.at_first in
    let n = few_by path h.next l (h.others ∙ ap Some same) in
    omega (arith, n, i.0, i.1))
    (λ t. clash (cc (sym e ∙ segments_end path at (ltb-false at (length path) t))))

pub left_few : (r : Rest) → length (left r) ≤ length r.path.now
left_few r = let n = few_by r.path.now r.at (left r) (left_some r) in omega (arith, n)

-- ---- a run of elements is one move

pub run-moves : (e : ℕ) (l : List Defined) → join_run e (moves l) ≡ indexes (e ∷ leading l) ∷ moves (behind l)
unfolding moves leading behind
run-moves e [] = refl
run-moves e (port ∷ l) = refl
run-moves e (class c ∷ l) = refl
run-moves e (instance i ∷ l) = refl
run-moves e (element x ∷ l) = rw (run-moves x l)
run-moves e (attribute a ∷ l) = refl
run-moves e (symbol s ∷ l) = refl

pub behind-shorter : (l : List Defined) → length (behind l) ≤ length l
unfolding behind
behind-shorter [] = omega arith
behind-shorter (port ∷ l) = omega arith
behind-shorter (class c ∷ l) = omega arith
behind-shorter (instance i ∷ l) = omega arith
behind-shorter (element x ∷ l) = omega (arith, behind-shorter l)
behind-shorter (attribute a ∷ l) = omega arith
behind-shorter (symbol s ∷ l) = omega arith

-- ---- the loop over a run

module _ (l : List Defined) where
  pub lead-empty : l ≡ [] → FirstElement l None
  unfolding leading behind
  lead-empty e = (rw e, rw e)

  pub lead-other : (s : Segment) (next : List Defined) → l ≡ segment_of s ∷ next → ((x : ℕ) → s ≡ Element x → ⊥) → FirstElement l None
  unfolding leading behind
  lead-other s next e n = (rw (e, no_element s n), rw (e, no_element s n))

-- where a loop over a run is: the run from here on completes the whole one
pub record Running (from : List Defined) (run : Run) : Type 0 where
  pub few : run.count + length (left run.rest) ≤ length from
  pub counted : run.count + length (leading (left run.rest)) ≡ length (leading from)
  pub lasting : last_three (first_of run.last) (second_of run.last) (third_of run.last) (leading (left run.rest)) ≡ last_three 0 0 0 (leading from)
  pub rest_is : behind (left run.rest) ≡ behind from
  pub three : length run.last ≡ 3

pub three_parts : (ns : List ℕ) → length ns ≡ 3 → first_of ns ∷ second_of ns ∷ third_of ns ∷ [] ≡ ns
three_parts [] h = absurd (omega arith)
three_parts (a ∷ []) h = absurd (omega arith)
three_parts (a ∷ (b ∷ [])) h = absurd (omega arith)
three_parts (a ∷ (b ∷ (d ∷ []))) h = refl
three_parts (a ∷ (b ∷ (d ∷ (e ∷ ns)))) h = absurd (omega arith)

module _ (from : List Defined) (run : Run) (here : Running from run) where
  module _ (x : ℕ) (next : Rest) (more : left run.rest ≡ element x ∷ left next) where
    pub run_fits : run.count + 1 ≤ length from
    run_fits = let n = rw more at here.few in omega (arith, n)

    pub run_more : Running from (record { count = run.count + 1; last = second_of run.last ∷ third_of run.last ∷ x ∷ []; rest = next })
    unfolding last_three leading behind
    run_more = record {
      few = let n = rw more at here.few in omega (arith, n);
      counted = let n = rw more at here.counted in omega (arith, n);
      lasting = rw more at here.lasting;
      rest_is = rw more at here.rest_is;
      three = refl;
    }

  pub run_stop : FirstElement (left run.rest) None → Ran from run
  unfolding last_three
  run_stop e = record {
    values_are = record {
      count_is = let n = rw e.0 at here.counted in omega (arith, n);
      last_are = sym (three_parts run.last here.three) ∙ rw e.0 at here.lasting;
    };
    rest_is = sym e.1 ∙ here.rest_is;
  }
