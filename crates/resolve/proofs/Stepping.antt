-- A place that stands in its tag, and the moves from it.
-- Assumes nothing.
use mathlib.Core.Path.{◌≡◌}
use mathlib.Core.Bool.{true}
use mathlib.Core.List.{List, ◌∷◌}
use Rattle.std.specs.Prelude.{Result, Ok, Err}
use Rattle.std.proofs.Common.{Bor}
use Prim.Native.Nat.{ℕ, ◌<◌, ◌≤◌}
use native.Mathlib.Omega.{arith}
use lib.Dec.{leb}
use lib.ListN.{length}
use borrow.Author.Tests.{leb-true}
use Rattle.laws.specs.Pick.{is_empty}
use Rattle.laws.proofs.Tests.{among, both-none}
use Rattle.definition.specs.Segment.{Segment as Defined, element, symbol}
use Rattle.definition.specs.Tables.{Tables, Flags}
use Rattle.definition.specs.Valid.{t1, valid}
use Rattle.definition.specs.Resolve.{found, turned, Move, indexes, member, moves, index, member_of, move_to, walk}
use Rattle.definition.proofs.Facts.{element-some, tag_in_memory}
use Rattle.definition.proofs.Inside.{move_stands}
use Rattle.cip.specs.Statuses.{status_of}
use Rattle.cip.specs.declared.Status.{Status}
use Rattle.cip.specs.declared.Status.TheVariants.{PathError}
use Rattle.path.specs.Paths.{segment_of}
use Rattle.path.specs.declared.Segment.{Segment}
use Rattle.path.specs.declared.Segment.TheVariants.{Element, Symbol}
use Rattle.resolve.specs.declared.places.Place.{Place}
use Rattle.resolve.specs.declared.elements.Run.{Run}
use Rattle.resolve.specs.declared.rest.Rest.{Rest}
use Rattle.resolve.specs.Answers.{walk_tables}
use Rattle.resolve.specs.Paths.{left, leading, behind}
use Rattle.resolve.specs.Places.{place_of, moved_of}
use Rattle.resolve.specs.Runs.{Holds, Bounded, Ran}
use Rattle.resolve.specs.Steps.{Standing, walked, Onward, Steps}
use Rattle.resolve.proofs.Lefts.{no_items, no_element, no_name, run-moves, behind-shorter}
use Rattle.resolve.proofs.Looks.{move_same}

-- ---- tables

pub memory-small : (t : Tables) (memory : ℕ) → valid t memory ≡ true → memory ≤ 65536
unfolding valid t1
memory-small t memory ok = leb-true memory 65536 (among (leb memory 65536) (valid t memory) ok (λ e. simp (e, both-none)))

pub programs-few : (t : Tables) (memory : ℕ) → valid t memory ≡ true → length t.programs ≤ 16
unfolding valid t1
programs-few t memory ok = leb-true (length t.programs) 16 (among (leb (length t.programs) 16) (valid t memory) ok (λ e. simp (e, both-none)))

module _ (t : Tables) (g : Place) (w : Standing t (place_of g)) where
  pub standing_bounded : Bounded t.structures g
  standing_bounded =
      let v = w.valid_in in
      let whole = walk_tables t v.rest in
      let s = w.stands in
      record {
        some_bytes = element-some whole v.memory v.ok g.ty s.type;
        reach = s.reach;
        within = omega (arith, s.before_end, tag_in_memory whole v.memory v.ok g.tag s.tag, memory-small whole v.memory v.ok);
      }

  pub standing_start : g.start ≤ 65536
  standing_start = omega (arith, standing_bounded.within)

-- ---- a step

module _ (t : Tables) (f : Flags) (l : List Defined) (g : Place) where
  abbrev Stepping : Result (Place × Rest) Status → Type 0
  Stepping = Steps t f l (place_of g)

  -- the segments are one move and what follows it
  module _ (m : Move) (next : List Defined) (first : moves l ≡ m ∷ moves next) where
    move_turned : (s : Status) → turned (status_of s) ≡ move_to t f m (place_of g) → Stepping (Err s)
    unfolding walk
    move_turned s e = rw (first, ← e)

    move_made : length next < length l → Standing t (place_of g) → (p : Place) → found (place_of p) ≡ move_to t f m (place_of g)
        → Onward t f l (place_of g) (place_of p) next
    unfolding walk
    move_made h w p e = record {
      same = rw (first, ← e);
      shorter = h;
      standing = record {
        valid_in = w.valid_in;
        stands =
            let v = w.valid_in in
            rw (move_same t v.rest f m (place_of g), ← e) at (move_stands (walk_tables t v.rest) f v.memory v.ok m (place_of g) w.stands);
      };
    }

  pub step-other : (s : Segment) (next : List Defined) → l ≡ segment_of s ∷ next → ((x : ℕ) → s ≡ Element x → ⊥)
      → ((x : Bor (List ℕ)) → s ≡ Symbol x → ⊥) → Stepping (Err PathError)
  unfolding walk moves
  step-other s next e n k = rw (e, no_element s n, no_name s k)

  module _ (name : List ℕ) (next : Rest) (here : l ≡ symbol name ∷ left next) where
    name_first : moves l ≡ member name ∷ moves (left next)
    unfolding moves
    name_first = rw here

    pub step_symbol : Standing t (place_of g) → (p : Place) → found (place_of p) ≡ member_of t f name (place_of g) → Stepping (Ok (p, next))
    step_symbol = move_made (member name) (left next) name_first (rw here (omega arith))

    pub step-symbol_turned : (s : Status) → turned (status_of s) ≡ member_of t f name (place_of g) → Stepping (Err s)
    step-symbol_turned = move_turned (member name) (left next) name_first

  module _ (x : ℕ) (next : List Defined) (here : l ≡ element x ∷ next) (run : Run) (ran : Ran l run)
      (r : Result Place Status) (is : (es : List ℕ) → Holds es run → moved_of r ≡ index t es (place_of g)) where
    rest : left run.rest ≡ behind next
    unfolding behind
    rest = rw here at ran.rest_is

    run_first : moves l ≡ indexes (leading l) ∷ moves (left run.rest)
    unfolding moves leading
    run_first = rw (here, rest) (run-moves x next)

    abbrev run_is : moved_of r ≡ index t (leading l) (place_of g)
    run_is = is (leading l) ran.values_are

    pub step_element : Standing t (place_of g) → (p : Place) → r ≡ Ok p → Stepping (Ok (p, run.rest))
    step_element w p e =
        move_made (indexes (leading l)) (left run.rest) run_first (rw (here, rest) (omega (arith, behind-shorter next))) w p (rw e at run_is)

    pub step-element_turned : (s : Status) → r ≡ Err s → Stepping (Err s)
    step-element_turned s e = move_turned (indexes (leading l)) (left run.rest) run_first s (rw e at run_is)

-- ---- the loop

-- the walk from here on is the whole walk
pub record Following (t : Tables) (f : Flags) (from : List Defined) (first : Place) (l : List Defined) (g : Place) : Type 0 where
  pub standing : Standing t (place_of g)
  pub same : walked t f l (place_of g) ≡ walked t f from (place_of first)

module _ (t : Tables) (f : Flags) (from : List Defined) (first : Place) where
  abbrev Followed : List Defined → Place → Type 0
  Followed = Following t f from first

  module _ (l : List Defined) (g : Place) (inv : Followed l g) where
    pub follow_end : is_empty l ≡ true → found (place_of g) ≡ walked t f from (place_of first)
    unfolding walk moves
    follow_end h = rw (no_items l h) at inv.same
