-- The entries of a scope, ascending by ID: T3 makes their IDs differ, so that each comes once; and each has its four ID bytes.
-- Assumes nothing.
use mathlib.Core.Path.{◌≡◌, refl, sym, ◌∙◌}
use mathlib.Core.Logic.{◌≢◌}
use mathlib.Core.Bool.{true}
use mathlib.Core.List.{List, [], ◌∷◌, map, map-append}
use Prim.Native.Nat.{ℕ, ◌<◌}
use native.Mathlib.Omega.{arith}
use lib.Dec.{eqb}
use lib.ListN.{length}
use borrow.Author.Tests.{eqb-true, eq-eqb}
use Rattle.laws.specs.Sorted.{All, Sorted, Distinct}
use Rattle.laws.specs.Tests.{pairs, every}
use Rattle.laws.proofs.Chain.{by_test}
use Rattle.laws.proofs.Sorted.{All-sort, Sorted-sort}
use Rattle.laws.proofs.Tests.{both-none, among, every-All, All-of_map, Distinct-append}
use Rattle.definition.specs.Tables.{Tables, Row, tag_scope, tag_id}
use Rattle.definition.specs.Valid.{ids_differ, t3, valid}
use Rattle.definition.specs.Page.{Entry, id_of}
use Rattle.definition.specs.Symbols.{Symbol, tag_symbol, other_symbol, in_scope_only, symbols, entry_of, listing}

-- T3, of two rows of one scope
pub ids_differ_lem : (a b : Row) → ids_differ a b ≡ true → tag_scope a ≡ tag_scope b → tag_id a ≢ tag_id b
unfolding ids_differ
ids_differ_lem a b e s i = let n = rw (eq-eqb _ _ s, eq-eqb _ _ i) at e in let z : ◌≡◌ {A = ℕ} 0 1 = cc n in omega arith

abbrev pub KeepsId : (Row → Symbol) → Type 0
KeepsId make = (r : Row) → (make r).id ≡ tag_id r

module _ (scope : ℕ) (attributes : List ℕ) where
  abbrev pub entries : (make : Row → Symbol) → List Row → List Entry
  entries make rows = map (entry_of attributes) (in_scope_only tag_scope make scope rows)

  All-entries : (make : Row → Symbol) (P : Entry → Type 0) (rows : List Row)
      → All (λ r. tag_scope r ≡ scope → P (entry_of attributes (make r))) rows → All P (entries make rows)
  unfolding in_scope_only
  All-entries make P [] a = tt
  All-entries make P (r ∷ rows) a =
      let rest = All-entries make P rows a.1 in
      by_test (eqb (tag_scope r) scope) (λ e. rw e (a.0 (eqb-true _ _ e), rest)) (λ e. rw e rest)

  -- entries of rows of the scope against those of other rows
  module _ (make other : Row → Symbol) (made : KeepsId make) (others : KeepsId other) where
    apart : (r : Row) (rows : List Row) → every (ids_differ r) rows ≡ true → tag_scope r ≡ scope
        → All (λ e. id_of (entry_of attributes (make r)) ≢ id_of e) (entries other rows)
    unfolding entry_of
    apart r rows e s =
        All-entries other _ rows (every-All (ids_differ r) _ (λ q d u. rw (made r, others q) (ids_differ_lem r q d (s ∙ sym u))) rows e)

    all_apart : (rs rows : List Row) → every (λ r. every (ids_differ r) rows) rs ≡ true
        → All (λ x. All (λ y. id_of x ≢ id_of y) (entries other rows)) (entries make rs)
    all_apart rs rows e = All-entries make _ rs (every-All _ _ (λ r. apart r rows) rs e)

  distinct_entries : (make : Row → Symbol) → KeepsId make → (rows : List Row) → pairs ids_differ rows ≡ true
      → Distinct id_of (entries make rows)
  unfolding in_scope_only pairs
  distinct_entries make made [] e = tt
  distinct_entries make made (r ∷ rows) e =
      let rest = distinct_entries make made rows (among (pairs ids_differ rows) _ e (λ n. rw (n, both-none))) in
      by_test (eqb (tag_scope r) scope)
      (λ h. rw h (apart make make made made r rows (among (every (ids_differ r) rows) _ e (λ n. rw n)) (eqb-true _ _ h), rest)) (λ h. rw h rest)

  distinct : (t : Tables) (memory : ℕ) → valid t memory ≡ true → Distinct id_of (map (entry_of attributes) (symbols t scope))
  unfolding symbols valid t3 tag_symbol other_symbol
  distinct t memory v =
      rw map-append (Distinct-append id_of (entries (tag_symbol t) t.tags) (entries (other_symbol t) t.others)
      (distinct_entries (tag_symbol t) (λ r. refl) t.tags (among (pairs ids_differ t.tags) _ v (λ e. simp (e, both-none))))
      (distinct_entries (other_symbol t) (λ r. refl) t.others (among (pairs ids_differ t.others) _ v (λ e. simp (e, both-none))))
      (all_apart (tag_symbol t) (other_symbol t) (λ r. refl) (λ r. refl) t.tags t.others
      (among (every (λ r. every (ids_differ r) t.others) t.tags) _ v (λ e. simp (e, both-none)))))

  pub listing_sorted : (t : Tables) (memory : ℕ) → valid t memory ≡ true → Sorted id_of (listing t scope attributes)
  unfolding listing
  listing_sorted t memory v = Sorted-sort id_of _ (distinct t memory v)

  pub listing-some : (t : Tables) → All (λ e. 0 < length e.bytes) (listing t scope attributes)
  unfolding listing entry_of
  listing-some t = All-sort id_of _ _ (All-of_map (entry_of attributes) _ (λ s. omega arith) (symbols t scope))
