-- A resolved path: the whole tag and its walk, what a service may use, and that a found target lies in tag memory.
-- Assumes nothing.
use mathlib.Core.Path.{◌≡◌, refl, sym, ap, ◌∙◌}
use mathlib.Core.Bool.{Bool, true, false}
use mathlib.Core.List.{List, []}
use Rattle.std.specs.Prelude.{Some, Result, Ok, Err}
use Prim.Native.Nat.{ℕ, ◌<◌, ◌≤◌}
use native.Mathlib.Omega.{arith}
use lib.Dec.{leb, eqb}
use lib.ListN.{length, get_or, get_or-eq_default}
use borrow.Author.Tests.{leb-true, leb-false}
use Rattle.laws.specs.Pick.{is_some}
use Rattle.laws.proofs.Chain.{by_test, pick_all}
use Rattle.definition.specs.Segment.{Segment, segments}
use Rattle.definition.specs.Tables.{Tables, Flags, field, tag_elements, tag_type, nonzero}
use Rattle.definition.specs.Valid.{valid}
use Rattle.definition.specs.Resolve.{found, whole_tag, index_lengths, resolve}
use Rattle.definition.specs.Access.{is_denied, refuses_locals, permitted, tag_target}
use Rattle.definition.proofs.Facts.{tag-elements}
use Rattle.definition.proofs.Inside.{tag_stands, target_lies_in_its_tag}
use Rattle.cip.specs.declared.Status.{Status}
use Rattle.cip.specs.declared.Status.TheVariants.{Denied}
use Rattle.model.specs.Shapes.{dword_array, indexed3, lengths3}
use Rattle.model.specs.Tables.{SomeValid, target_of, Aimed}
use Rattle.model.specs.declared.Target.{Target}
use Rattle.model.proofs.Laws.{indexed_lengths}
use Rattle.resolve.specs.declared.places.Place.{Place}
use Rattle.resolve.specs.declared.start.Start.{Start}
use Rattle.resolve.specs.Paths.{or_none, left}
use Rattle.resolve.specs.Places.{place_of, moved_of, whole_row, open_lengths, Aims}
use Rattle.resolve.specs.Starts.{Begins}
use Rattle.resolve.specs.Steps.{Standing, walked}
use Rattle.resolve.specs.Answers.{path_tables, ResolvesTo, Resolves, Targets}
use Rattle.resolve.proofs.Lefts.{some_or, three_parts}
use Rattle.resolve.proofs.Looks.{resolve_same}
use Rattle.resolve.proofs.Stepping.{memory-small, programs-few}

-- ---- the whole tag

-- a row with elements has the words before them
long_row : (row : List ℕ) → 0 < tag_elements row → 8 ≤ length row
long_row row k =
    by_test (leb 8 (length row)) (leb-true 8 (length row))
    (λ t. let h = leb-false 8 (length row) t in let short : length row ≤ 8 = omega (arith, h) in absurd (omega (arith, k, get_or-eq_default row 0 short)))

pub whole_lengths : (row ns : List ℕ) → 0 < tag_elements row → ns ≡ indexed3 (tag_type row) (lengths3 row) (tag_elements row)
    → open_lengths ns ≡ index_lengths row
whole_lengths row ns k e =
    let Three : List ℕ → Type 0 = λ ms. length ms ≡ 3 in
    let three : length (indexed3 (tag_type row) (lengths3 row) (tag_elements row)) ≡ 3 =
    pick_all Three (dword_array (tag_type row) (field 5 row)) refl
    (pick_all Three (eqb (field 5 row) 0) refl (pick_all Three (eqb (field 6 row) 0) refl refl)) in
    rw e (ap nonzero (three_parts (indexed3 (tag_type row) (lengths3 row) (tag_elements row)) three) ∙ indexed_lengths row (long_row row k) k)

-- ---- the path

module _ (t : Tables) (w : SomeValid (path_tables t)) where
  pub tabled_programs : length t.programs ≤ 16
  tabled_programs = programs-few (path_tables t w.rest) w.memory w.ok

  module _ (i : ℕ) (h : i < length t.tags) where
    pub tabled_elements : 0 < tag_elements (get_or t.tags i [])
    tabled_elements = (tag-elements (path_tables t w.rest) w.memory w.ok i h).0

    pub tabled_standing : (f : Flags) (g : Place) → place_of g ≡ whole_row i (get_or t.tags i []) → Standing t (place_of g)
    unfolding whole_tag whole_row
    tabled_standing f g e = rw e (record {
      valid_in = record { rest = path_tables t w.rest; memory = w.memory; ok = w.ok };
      stands = tag_stands (path_tables t w.rest) f w.memory w.ok i h;
    })

module _ (t : Tables) (f : Flags) (path : List ℕ) (l : List Segment) (decoded : segments path ≡ Some l) where
  of_all : (r : Result Target Status) → ResolvesTo t.structures (resolve t f l) r → Resolves t f path r
  of_all r h = record { is = λ o k e. let same : l ≡ k = cc (sym decoded ∙ e) in rw (resolve_same t o f k, ← same) h }

  pub resolve-turned : (s : Status) → Begins t f (resolve t f l) (Err s) → Resolves t f path (Err s)
  resolve-turned s b = of_all (Err s) (sym b.is)

  module _ (s : Start) (b : Begins t f (resolve t f l) (Ok s)) (first : Place)
      (whole : place_of first ≡ whole_row s.tag (get_or t.tags s.tag []))
      (m : Result Place Status) (walks : moved_of m ≡ walked t f (left s.rest) (place_of first)) where
    resolve_is : moved_of m ≡ resolve t f l
    unfolding whole_tag whole_row
    resolve_is = walks ∙ rw whole b.is

    pub resolve-away : (x : Status) → m ≡ Err x → Resolves t f path (Err x)
    resolve-away x e = of_all (Err x) (rw e at (sym resolve_is))

    pub resolve_found : (g : Place) (target : Target) → m ≡ Ok g → Aims t.structures g target → Resolves t f path (Ok target)
    resolve_found g target e a =
        of_all (Ok target) (record { lengths = open_lengths g.lengths; is = (rw e at (sym resolve_is)) ∙ ap found (sym a.is); size_is = a.size_is })

-- ---- what a service may use

module _ (t : Tables) (f : Flags) (path : List ℕ) (writes : Bool) where
  pub target-turned : (s : Status) → Resolves t f path (Err s) → Targets t f writes path (Err s)
  unfolding tag_target
  target-turned s r = record { is = λ o l k. rw (r.is o l k) }

  module _ (g : Target) (r : Resolves t f path (Ok g)) where
    denied_same : (o : Tables) (lengths : List ℕ) → is_denied (path_tables t o) f writes (target_of g lengths) ≡ is_denied t f writes (target_of g [])
    unfolding is_denied refuses_locals
    denied_same o lengths = refl

    pub target-denied : is_denied t f writes (target_of g []) ≡ true → Targets t f writes path (Err Denied)
    unfolding tag_target permitted
    target-denied on = record { is = λ o l k. let a = r.is o l k in rw (a.is, denied_same o a.lengths, on) }

    pub target_found : is_denied t f writes (target_of g []) ≡ false → Targets t f writes path (Ok g)
    unfolding tag_target permitted
    target_found off = record {
      is = λ o l k. let a = r.is o l k in record { lengths = a.lengths; is = rw (a.is, denied_same o a.lengths, off); size_is = a.size_is };
    }

-- ---- a found target lies in tag memory, whatever its length is

pub found_aimed : (t : Tables) (path : List ℕ) (f : Flags) (writes : Bool) (g : Target) (memory : ℕ) → valid t memory ≡ true
    → is_some (segments path) ≡ true → Targets t f writes path (Ok g) → Aimed t.structures memory g
found_aimed t path f writes g memory ok decodes r =
    let whole = or_none (segments path) in
    let a = r.is t whole (some_or (segments path) decodes) in
    let l = target_lies_in_its_tag t f memory writes whole (target_of g a.lengths) ok a.is in
    let s = a.size_is in
    record {
      size_is = s;
      some_bytes = omega (arith, s, l.some_bytes);
      some_elements = l.some_elements;
      in_memory = rw s (omega (arith, l.before_end, l.in_memory));
      small_memory = memory-small t memory ok;
      bit = l.bit;
    }
