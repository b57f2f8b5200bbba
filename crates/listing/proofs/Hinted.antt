-- A tag whose ID is the bound itself is what the search for the next symbol finds: T3 leaves that ID to no other symbol of the scope.
-- Assumes nothing.
use Rattle.std.proofs.Common.{◌≡◌, ℕ, zero, suc, ◌+◌, ◌<◌, true, eqb, ltb, leb, ◌≢◌, List, [], ◌∷◌, length, get_or, sym, refl, ◌∙◌, arith, lt-ltb, le-ltb}
use Rattle.std.proofs.Common.{le-leb, leb-true, ltb-true, eq-eqb, eqb-true}
use Rattle.std.specs.Prelude.{Option, None, Some}
use Rattle.laws.specs.Fold.{fold}
use Rattle.laws.specs.Pick.{both}
use Rattle.laws.specs.Tests.{every, pairs}
use Rattle.laws.proofs.Chain.{by_test, pick_all}
use Rattle.laws.proofs.Tests.{both_true, among, both-none, every_at}
use Rattle.definition.specs.Tables.{Tables, Row, tag_scope, tag_id}
use Rattle.definition.specs.Valid.{ids_differ, t3, valid}
use Rattle.definition.proofs.Listing.{ids_differ_lem}
use Rattle.model.specs.Least.{listed, nearer, least_row, least_in, nearest, next_in}
use Rattle.model.specs.declared.least.Listed.{Listed}
use Rattle.model.specs.declared.least.Next.TheVariants.{Tag}
use Rattle.model.specs.Tables.{SomeValid}
use Rattle.listing.specs.Entries.{page_lent, IdsApart}

-- T3, of a row with this scope and ID and another row of the scope
other-id : (scope bound : ℕ) (r q : Row) → tag_scope r ≡ scope → tag_id r ≡ bound → ids_differ r q ≡ true → tag_scope q ≡ scope → tag_id q ≢ bound
other-id scope bound r q s i e u v = ids_differ_lem r q e (s ∙ sym u) (i ∙ sym v)

module _ (scope bound : ℕ) where
  -- a search that found nothing, or an ID above the bound
  abbrev Above : Option Listed → Type 0
  Above None = Unit {0}
  Above (Some other) = bound < other.id

  nearer_above : (here : Listed) (rest : Option Listed) → bound < here.id → Above rest → Above (Some (nearer here rest))
  nearer_above here None h a = h
  nearer_above here (Some other) h a = pick_all (λ (l : Listed). bound < l.id) (ltb here.id other.id) h a

  -- among rows that differ from one with the bound as its ID
  above : (r : Row) → tag_scope r ≡ scope → tag_id r ≡ bound → (k : ℕ) (rows : List Row) → every (ids_differ r) rows ≡ true
      → Above (fold (least_row scope bound) None k rows)
  unfolding fold every
  above r s i k [] e = tt
  above r s i k (q ∷ rows) e =
      let d = both_true (ids_differ r q) _ e in
      let rest = above r s i (suc k) rows d.1 in
      by_test (eqb (tag_scope q) scope)
      (λ t. by_test (leb bound (tag_id q))
      (λ l. rw (t, l) (nearer_above (listed k (tag_id q)) (fold (least_row scope bound) None (suc k) rows)
      (omega (arith, leb-true bound (tag_id q) l, other-id scope bound r q s i d.0 (eqb-true _ _ t))) rest))
      (λ l. rw (t, l) rest))
      (λ t. rw t rest)

  nearer_bound : (i : ℕ) (rest : Option Listed) → Above rest → nearer (listed i bound) rest ≡ listed i bound
  nearer_bound i None a = refl
  nearer_bound i (Some other) a = rw (lt-ltb bound other.id a)

  -- a row before one with the bound as its ID is not nearer
  before_bound : (i j : ℕ) (r : Row) → least_row scope bound i r (Some (listed j bound)) ≡ Some (listed j bound)
  before_bound i j r =
      by_test (eqb (tag_scope r) scope)
      (λ t. by_test (leb bound (tag_id r)) (λ l. rw (t, l, le-ltb (tag_id r) bound (leb-true bound (tag_id r) l))) (λ l. rw (t, l)))
      (λ t. rw t)

  -- the row with the bound as its ID is found
  found : (k : ℕ) (rows : List Row) (h j : ℕ) → pairs ids_differ rows ≡ true → h < length rows → j ≡ k + h
      → tag_scope (get_or rows h []) ≡ scope → tag_id (get_or rows h []) ≡ bound → fold (least_row scope bound) None k rows ≡ Some (listed j bound)
  unfolding fold pairs
  found k [] h j e l p s i = absurd (omega arith)
  found k (r ∷ rows) zero j e l p s i =
      let n : j ≡ k = omega arith in
      rw (
        eq-eqb _ _ s,
        i,
        le-leb bound bound (omega arith),
        n,
        nearer_bound k (fold (least_row scope bound) None (suc k) rows) (above r s i (suc k) rows (both_true (every (ids_differ r) rows) _ e).0),
      )
  found k (r ∷ rows) (suc h) j e l p s i =
      rw (found (suc k) rows h j (both_true (every (ids_differ r) rows) _ e).1 (omega arith) (omega arith) s i) (before_bound k j r)

  tag_first_lem : (h : ℕ) (other : Option Listed) → Above other → nearest (Some (listed h bound)) other ≡ Some (Tag (listed h bound))
  tag_first_lem h None a = refl
  tag_first_lem h (Some other) a = rw (lt-ltb bound other.id a)

  pub hint_next : (tags others : List Row) (h : ℕ) (row : Row) → IdsApart tags others → true ≡ ltb h (length tags) → row ≡ get_or tags h []
      → true ≡ both (eqb (tag_scope row) scope) (eqb (tag_id row) bound) → Some (Tag (listed h (tag_id row))) ≡ next_in tags others scope bound
  unfolding least_in
  hint_next tags others h row d l q e =
      let inside : h < length tags = ltb-true h (length tags) (sym l) in
      let t = both_true (eqb (tag_scope row) scope) _ (sym e) in
      let s : tag_scope (get_or tags h []) ≡ scope = rw q at (eqb-true _ _ t.0) in
      let i : tag_id (get_or tags h []) ≡ bound = rw q at (eqb-true _ _ t.1) in
      let other = above (get_or tags h []) s i 0 others (every_at (λ r. every (ids_differ r) others) [] tags h d.1 inside) in
      rw (found 0 tags h h d.0 inside (omega arith) s i, q, i) (sym (tag_first_lem h (least_in scope bound others) other))

-- by T3 of a valid table set
pub ids_apart : (t : Tables) → SomeValid (page_lent t) → IdsApart t.tags t.others
unfolding valid t3
ids_apart t w = (
  among (pairs ids_differ t.tags) _ w.ok (λ e. simp (e, both-none)),
  among (every (λ r. every (ids_differ r) t.others) t.tags) _ w.ok (λ e. simp (e, both-none)),
)
