-- The walk over the entries of a scope, one after another by ascending ID: all of them measured, and as far as a page's go.
-- Assumes nothing.
use mathlib.Core.Path.{◌≡◌, sym, ◌∙◌}
use mathlib.Core.Logic.{◌⊎◌, inl, inr}
use mathlib.Core.Bool.{true}
use mathlib.Core.List.{List, [], ◌∷◌, map}
use Rattle.std.specs.Prelude.{Option, None, Some}
use Prim.Native.Nat.{ℕ, suc, ◌+◌, ◌-◌, ◌*◌, ◌≤◌, ◌<◌, max}
use native.Mathlib.Omega.{arith}
use lib.Dec.{leb, ltb, eqb}
use lib.ListN.{length, take, drop, length-append, length-map}
use borrow.Author.Tests.{leb-true, le-leb, lt-leb}
use Rattle.laws.specs.Fold.{fold}
use Rattle.laws.specs.Put.{KeptFrom}
use Rattle.laws.proofs.Chain.{by_test, pick_all}
use Rattle.laws.proofs.Put.{kept_put}
use Rattle.laws.proofs.Sorted.{length-sort, length_from}
use Rattle.laws.specs.Pick.{both}
use Rattle.laws.proofs.Tests.{among, both-none, both_true}
use Rattle.definition.specs.Tables.{Tables, Row, tag_scope, tag_id, other_scope}
use Rattle.definition.specs.Valid.{valid, t1}
use Rattle.definition.specs.Page.{Entry, id_of, bytes_of, fitting}
use Rattle.definition.specs.Symbols.{Symbol, tag_symbol, other_symbol, in_scope_only, symbols, entry_of, listing, due}
use Rattle.model.specs.Least.{listed, nearer, least_row, least_in, nearest, next_in}
use Rattle.model.specs.declared.least.Listed.{Listed}
use Rattle.model.specs.declared.least.Next.{Next}
use Rattle.model.specs.declared.least.Next.TheVariants.{Tag, Other}
use Rattle.model.proofs.Due.{NextDue, none_due, next_due}
use Rattle.model.specs.Tables.{SomeValid, WhereValid}
use Rattle.listing.specs.Entries.{Stepped, more, full, done}
use Rattle.listing.specs.declared.pages.Walk.{Walk}
use Rattle.listing.specs.declared.pages.Step.{Step}
use Rattle.listing.specs.declared.pages.Step.TheVariants.{More, Full, Done}
use Rattle.whole.specs.Lists.{longest}
use Rattle.whole.specs.Turns.{Measured, next_id, start_by, StartsAt}

-- ---- T1: a scope has few symbols

length-scope : (scope_of : Row → ℕ) (make : Row → Symbol) (scope : ℕ) (rows : List Row) → length (in_scope_only scope_of make scope rows) ≤ length rows
unfolding in_scope_only
length-scope scope_of make scope [] = omega arith
length-scope scope_of make scope (r ∷ rows) =
    let l = length-scope scope_of make scope rows in
    pick_all (λ (s : List Symbol). length s ≤ suc (length rows)) (eqb (scope_of r) scope) (omega arith) (omega arith)

length-listing : (t : Tables) (scope : ℕ) (attributes : List ℕ) → length (listing t scope attributes) ≤ length t.tags + length t.others
unfolding listing symbols
length-listing t scope attributes =
    let a = length-scope tag_scope (tag_symbol t) scope t.tags in
    let b = length-scope other_scope (other_symbol t) scope t.others in
    omega (
      arith,
      length-sort id_of (map (entry_of attributes) (symbols t scope)),
      length-map (symbols t scope) (entry_of attributes),
      length-append (in_scope_only tag_scope (tag_symbol t) scope t.tags) (in_scope_only other_scope (other_symbol t) scope t.others),
    )

pub due-few : (t : Tables) (memory : ℕ) → valid t memory ≡ true → (scope : ℕ) (attributes : List ℕ) (start : ℕ) → length (due t scope attributes start) ≤ 1088
unfolding due valid t1
due-few t memory v scope attributes start =
    let a = leb-true (length t.tags) 1024 (among (leb (length t.tags) 1024) _ v (λ e. simp (e, both-none))) in
    let b = leb-true (length t.others) 64 (among (leb (length t.others) 64) _ v (λ e. simp (e, both-none))) in
    omega (arith, a, b, length-listing t scope attributes, length_from id_of start (listing t scope attributes))

-- ---- all entries measured: what is passed and what is left make up all of them

pub record Measuring (limit : ℕ) (all left : List Entry) (total : ℕ) : Type 0 where
  pub total_is : total + length (bytes_of left) ≡ length (bytes_of all)
  pub not_longer : longest left ≤ longest all
  pub room : longest all ≤ max (limit - 4) (longest left)
  pub few : total + 65535 * length left ≤ 71302080

pub measure_none : (limit : ℕ) (all : List Entry) → length all ≤ 1088 → Measuring limit all all 0
measure_none limit all h = record { total_is = omega arith; not_longer = omega arith; room = omega arith; few = omega arith }

module _ (limit : ℕ) (all left : List Entry) (total : ℕ) (m : Measuring limit all left total) where
  measure_on : (e : Entry) (es : List Entry) (u : ℕ) → left ≡ e ∷ es → u ≡ 4 + length e.bytes → u ≤ limit → limit ≤ 65535
      → Measuring limit all es (total + (u - 4))
  unfolding bytes_of longest
  measure_on e es u d k h l =
      let a = rw d at m.total_is in
      let b = rw d at m.not_longer in
      let c = rw d at m.room in
      let f = rw d at m.few in
      record {
        total_is = omega (arith, a, length-append e.bytes (bytes_of es));
        not_longer = omega (arith, b);
        room = omega (arith, c);
        few = omega (arith, f);
      }

  measure_over : (e : Entry) (es : List Entry) → left ≡ e ∷ es → limit < 4 + length e.bytes → limit < 4 + longest all
  unfolding longest
  measure_over e es d h = omega (arith, rw d at m.not_longer)

  measure_end : left ≡ [] → 4 ≤ limit → (total ≡ length (bytes_of all)) × (4 + longest all ≤ limit)
  unfolding bytes_of longest
  measure_end d h = (omega (arith, rw d at m.total_is), omega (arith, rw d at m.room))

module _ (t : Tables) (scope : ℕ) (attributes : List ℕ) (limit bound : ℕ) (old : List ℕ) where
  module _ (all : List Entry) (total : ℕ) (m : Measuring limit all (due t scope attributes bound) total) where
    on_more : {w : Walk} {new : List ℕ} → limit ≤ 65535 → Stepped t scope attributes limit 4 bound old (More w) new
        → Measuring limit all (due t scope attributes w.bound) (total + (w.used - 4)) × (total + 65535 ≤ 71302080)
    on_more l (more e i d k h p) =
        (measure_on limit all _ total m e _ _ d k h l, let f = rw d at m.few in omega (arith, f))

    on_full : {new : List ℕ} → Stepped t scope attributes limit 4 bound old Full new → limit < 4 + longest all
    on_full (full e es d h p) = measure_over limit all _ total m e es d h

    on_done : {new : List ℕ} → 4 ≤ limit → Stepped t scope attributes limit 4 bound old Done new → (total ≡ length (bytes_of all)) × (4 + longest all ≤ limit)
    on_done l (done d p) = measure_end limit all _ total m d l

    module _ (s : Step) (new : List ℕ) (step : Stepped t scope attributes limit 4 bound old s new) where
      pub measure_more : {w : Walk} → limit ≤ 65535 → s ≡ More w
          → Measuring limit all (due t scope attributes w.bound) (total + (w.used - 4)) × (total + 65535 ≤ 71302080)
      measure_more l q = on_more l (rw q at step)

      pub measure_full : s ≡ Full → Measured all limit None
      measure_full q = on_full (rw q at step)

      pub measure_done : 4 ≤ limit → s ≡ Done → Measured all limit (Some total)
      measure_done l q = on_done l (rw q at step)

-- ---- the entries passed as far as they fit: what is left from here on is what is left from the start

abbrev left_by : (space : ℕ) → List Entry → List Entry
left_by space entries = drop (fitting space entries) entries

abbrev front_by : (space : ℕ) → List Entry → List Entry
front_by space entries = take (fitting space entries) entries

module _ (limit used : ℕ) (e : Entry) (es left : List Entry) (d : left ≡ e ∷ es) where
  left_more : (u : ℕ) → u ≡ used + length e.bytes → u ≤ limit → left_by (limit - u) es ≡ left_by (limit - used) left
  unfolding fitting
  left_more u k h =
      let s : limit - used - length e.bytes ≡ limit - u = omega arith in
      rw (d, le-leb (length e.bytes) (limit - used) (omega arith), s)

  next_more : (u bound b : ℕ) → u ≡ used + length e.bytes → u ≤ limit → b ≡ suc e.id
      → next_id b (front_by (limit - u) es) ≡ next_id bound (front_by (limit - used) left)
  unfolding fitting next_id
  next_more u bound b k h i =
      let s : limit - used - length e.bytes ≡ limit - u = omega arith in
      rw (d, le-leb (length e.bytes) (limit - used) (omega arith), s, i)

  module _ (l : used ≤ limit) (h : limit < used + length e.bytes) where
    left_full : left ≡ left_by (limit - used) left
    unfolding fitting
    left_full = rw (d, lt-leb (length e.bytes) (limit - used) (omega arith))

    next_full : (bound : ℕ) → bound ≡ next_id bound (front_by (limit - used) left)
    unfolding fitting next_id
    next_full bound = rw (d, lt-leb (length e.bytes) (limit - used) (omega arith))

module _ (space : ℕ) (left : List Entry) (d : left ≡ []) where
  left_none : left ≡ left_by space left
  unfolding fitting
  left_none = rw d

  next_none : (bound : ℕ) → bound ≡ next_id bound (front_by space left)
  unfolding fitting next_id
  next_none bound = rw d

module _ (t : Tables) (scope : ℕ) (attributes : List ℕ) where
  -- from a bound on, with so much space, the entries that fit end before this ID and leave these due
  abbrev pub Passes : (space bound id : ℕ) (left : List Entry) → Type 0
  Passes space bound id left =
      (next_id bound (front_by space (due t scope attributes bound)) ≡ id) × (left_by space (due t scope attributes bound) ≡ left)

  module _ (limit used bound : ℕ) (old : List ℕ) (id : ℕ) (left : List Entry) (here : Passes (limit - used) bound id left) where
    past_more : {w : Walk} {new : List ℕ} → Stepped t scope attributes limit used bound old (More w) new → Passes (limit - w.used) w.bound id left
    past_more (more e i d k h p) = (next_more limit used e _ _ d _ _ _ k h i ∙ here.0, left_more limit used e _ _ d _ k h ∙ here.1)

    past_full : {new : List ℕ} → used ≤ limit → Stepped t scope attributes limit used bound old Full new → (bound ≡ id) × (due t scope attributes bound ≡ left)
    past_full l (full e es d h p) = (next_full limit used e es _ d l h bound ∙ here.0, left_full limit used e es _ d l h ∙ here.1)

    past_done : {new : List ℕ} → Stepped t scope attributes limit used bound old Done new → (bound ≡ id) × (due t scope attributes bound ≡ left)
    past_done (done d p) = (next_none (limit - used) _ d bound ∙ here.0, left_none (limit - used) _ d ∙ here.1)

    module _ (s : Step) (new : List ℕ) (step : Stepped t scope attributes limit used bound old s new) where
      pub bound_more : {w : Walk} → s ≡ More w → Passes (limit - w.used) w.bound id left
      bound_more q = past_more (rw q at step)

      pub bound_full : s ≡ Full → used ≤ limit → (bound ≡ id) × (due t scope attributes bound ≡ left)
      bound_full q l = past_full l (rw q at step)

      pub bound_done : s ≡ Done → (bound ≡ id) × (due t scope attributes bound ≡ left)
      bound_done q = past_done (rw q at step)

-- ---- the buffer: a step writes between what is used and the limit

step_kept : (t : Tables) (scope : ℕ) (attributes : List ℕ) (limit used bound : ℕ) (a old : List ℕ) (s : Step) (new : List ℕ)
    → KeptFrom limit a old → limit ≤ length old → Stepped t scope attributes limit used bound old s new → KeptFrom limit a new
step_kept t scope attributes limit used bound a old s new k l (more e i d u h p) = kept_put limit a old new k used e.bytes p (omega arith) l
step_kept t scope attributes limit used bound a old s new k l (full e es d h p) = rw p k
step_kept t scope attributes limit used bound a old s new k l (done d p) = rw p k

pub walk_kept : {lent : Tables → Tables} {scope : ℕ} {attributes : List ℕ} {limit used bound : ℕ}
    (a : List ℕ) {old new : List ℕ} {s : Step}
    → SomeValid lent → KeptFrom limit a old → limit ≤ length a
    → WhereValid lent (λ t. Stepped t scope attributes limit used bound old s new) → KeptFrom limit a new
walk_kept a w k l each = step_kept _ _ _ _ _ _ _ _ _ _ k (omega (arith, k.1)) (each w.rest w.memory w.ok)

-- ---- a bound that something is due from: the least ID from it on is not below it

abbrev Above : ℕ → Option Listed → Type 0
Above bound None = Unit {0}
Above bound (Some r) = bound ≤ r.id

abbrev NextAbove : ℕ → Option Next → Type 0
NextAbove bound None = Unit {0}
NextAbove bound (Some (Tag r)) = bound ≤ r.id
NextAbove bound (Some (Other r)) = bound ≤ r.id

module _ (scope bound : ℕ) where
  nearer_above : (r : Listed) (rest : Option Listed) → bound ≤ r.id → Above bound rest → bound ≤ (nearer r rest).id
  nearer_above r None h a = h
  nearer_above r (Some other) h a = pick_all (λ (x : Listed). bound ≤ x.id) (ltb r.id other.id) h a

  row_above : (i : ℕ) (r : Row) (rest : Option Listed) → Above bound rest → Above bound (least_row scope bound i r rest)
  row_above i r rest a =
      by_test (both (eqb (tag_scope r) scope) (leb bound (tag_id r)))
      (λ t. rw t (nearer_above (listed i (tag_id r)) rest (leb-true bound (tag_id r) (both_true _ _ t).1) a))
      (λ t. rw t a)

  least_above : (i : ℕ) (rows : List Row) → Above bound (fold (least_row scope bound) None i rows)
  unfolding fold
  least_above i [] = tt
  least_above i (r ∷ rows) = row_above i r _ (least_above (suc i) rows)

  nearest_above : (a b : Option Listed) → Above bound a → Above bound b → NextAbove bound (nearest a b)
  nearest_above None None x y = tt
  nearest_above None (Some o) x y = y
  nearest_above (Some t) None x y = x
  nearest_above (Some t) (Some o) x y = pick_all (NextAbove bound) (ltb t.id o.id) x y

  next_above : (tags others : List Row) → NextAbove bound (next_in tags others scope bound)
  unfolding least_in
  next_above tags others = nearest_above (least_in scope bound tags) (least_in scope bound others) (least_above 0 tags) (least_above 0 others)

  pub next-id : (tags others : List Row) {n : Next} {r : Listed} → Some n ≡ next_in tags others scope bound → (n ≡ Tag r) ⊎ (n ≡ Other r) → bound ≤ r.id
  next-id tags others e (inl q) = rw (← e, q) at (next_above tags others)
  next-id tags others e (inr q) = rw (← e, q) at (next_above tags others)

module _ (t : Tables) (scope : ℕ) (attributes : List ℕ) (start bound : ℕ) (listed left : List Entry)
    (here : (bound ≡ next_id start listed) × (due t scope attributes bound ≡ left)) where
  starts_by : (n : Option Next) → NextDue scope attributes t bound n → StartsAt t scope attributes start listed left (start_by bound n)
  starts_by None (none_due e) = sym here.1 ∙ e
  starts_by (Some (Tag r)) d = here
  starts_by (Some (Other r)) d = here

  pub starts_next : (memory : ℕ) → valid t memory ≡ true → (r : Option ℕ) → r ≡ start_by bound (next_in t.tags t.others scope bound)
      → StartsAt t scope attributes start listed left r
  starts_next memory v r e = rw e (starts_by _ (next_due scope attributes t memory v bound))
