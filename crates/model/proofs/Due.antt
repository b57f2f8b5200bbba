-- What the search for the next ID finds is the next entry that is due, and behind it the entries due are those from its ID plus one.
-- Assumes nothing.
use mathlib.Core.Path.{◌≡◌, refl, ap, ◌∙◌}
use mathlib.Core.Bool.{true}
use mathlib.Core.List.{List, [], ◌∷◌, map-append}
use Rattle.std.specs.Prelude.{Option, None, Some}
use Prim.Native.Nat.{ℕ, suc, ◌+◌, ◌<◌}
use native.Mathlib.Omega.{arith}
use lib.Dec.{leb, ltb, eqb}
use lib.ListN.{length, get_or}
use Rattle.laws.specs.Fold.{fold}
use Rattle.laws.specs.Pick.{pick}
use Rattle.laws.specs.Sorted.{nearer, least, head_of}
use Rattle.laws.proofs.Chain.{by_test}
use Rattle.laws.proofs.Least.{search_finds, from-none, from_step, join_least, least-append}
use Rattle.definition.specs.Tables.{Tables, Row, tag_scope, tag_id}
use Rattle.definition.specs.Valid.{valid}
use Rattle.definition.specs.Page.{Entry, id_of}
use Rattle.definition.specs.Symbols.{Symbol, tag_symbol, other_symbol, in_scope_only, symbols, entry_of, listing, due}
use Rattle.definition.proofs.Listing.{KeepsId, entries, listing_sorted}
use Rattle.model.specs.Least.{listed, nearer as nearer_row, least_row, least_in, nearest, next_in}
use Rattle.model.specs.declared.least.Listed.{Listed}
use Rattle.model.specs.declared.least.Next.{Next}
use Rattle.model.specs.declared.least.Next.TheVariants.{Tag, Other}

module _ (scope : ℕ) (attributes : List ℕ) where
  abbrev entry_at : (make : Row → Symbol) (rows : List Row) → ℕ → Entry
  entry_at make rows i = entry_of attributes (make (get_or rows i []))

  -- the place of a row and the entry that is made of it
  data Tied (make : Row → Symbol) (rows : List Row) : Option Listed → Option Entry → Type 0 where
    neither : Tied make rows None None
    tied : {r : Listed} → r.place < length rows → id_of (entry_at make rows r.place) ≡ r.id → Tied make rows (Some r) (Some (entry_at make rows r.place))

  module _ (make : Row → Symbol) (made : KeepsId make) (rows : List Row) (bound : ℕ) where
    id_at : (i : ℕ) → id_of (entry_at make rows i) ≡ tag_id (get_or rows i [])
    unfolding entry_of
    id_at i = made (get_or rows i [])

    -- a row before others
    nearer_tied : (k : ℕ) (rest : Option Listed) (o : Option Entry) → Tied make rows rest o → k < length rows
        → Tied make rows (Some (nearer_row (listed k (tag_id (get_or rows k []))) rest)) (Some (nearer id_of (entry_at make rows k) o))
    nearer_tied k None None neither h = tied h (id_at k)
    nearer_tied k (Some r) (Some e) (tied l q) h =
        let same : ltb (id_of (entry_at make rows k)) (id_of (entry_at make rows r.place)) ≡ ltb (tag_id (get_or rows k [])) r.id = cc (id_at k, q) in
        by_test (ltb (tag_id (get_or rows k [])) r.id) (λ t. rw (same, t) (tied h (id_at k))) (λ t. rw (same, t) (tied l q))
    nearer_tied k (Some r) None x4 h = elim x4 [ ]
    nearer_tied k None (Some e) x5 h = elim x5 [ ]

    row_tied : (k : ℕ) (rest : Option Listed) (o : Option Entry) → Tied make rows rest o → k < length rows
        → Tied make rows (pick (leb bound (tag_id (get_or rows k []))) (Some (nearer_row (listed k (tag_id (get_or rows k []))) rest)) rest)
        (pick (leb bound (id_of (entry_at make rows k))) (Some (nearer id_of (entry_at make rows k) o)) o)
    row_tied k rest o t h =
        let same : leb bound (id_of (entry_at make rows k)) ≡ leb bound (tag_id (get_or rows k [])) = cc (id_at k) in
        by_test (leb bound (tag_id (get_or rows k []))) (λ e. rw (same, e) (nearer_tied k rest o t h)) (λ e. rw (same, e) t)

    -- the rows from the k-th on
    from_tied : (k : ℕ) (rest : List Row) → ((j : ℕ) → get_or rows (k + j) [] ≡ get_or rest j []) → k + length rest ≡ length rows
        → Tied make rows (fold (least_row scope bound) None k rest) (least id_of bound (entries scope attributes make rest))
    unfolding fold least in_scope_only
    from_tied k [] at l = neither
    from_tied k (r ∷ rest) at l =
        let more = from_tied (suc k) rest (λ j. let e : suc k + j ≡ k + suc j = omega arith in rw e (at (suc j))) (omega arith) in
        let here : get_or rows k [] ≡ r = let e : k ≡ k + 0 = omega arith in ap (λ (n : ℕ). get_or rows n []) e ∙ at 0 in
        by_test (eqb (tag_scope r) scope) (λ e. rw (e, ← here) (row_tied k _ _ more (omega arith))) (λ e. rw e more)

    least_tied : Tied make rows (least_in scope bound rows) (least id_of bound (entries scope attributes make rows))
    unfolding least_in
    least_tied = from_tied 0 rows (λ j. let e : 0 + j ≡ j = omega arith in ap (λ (n : ℕ). get_or rows n []) e) (omega arith)

  -- what the search says of the entries due from a bound on
  pub data NextDue (t : Tables) (bound : ℕ) : Option Next → Type 0 where
    none_due : due t scope attributes bound ≡ [] → NextDue t bound None
    tag_due : {r : Listed} → r.place < length t.tags → id_of (entry_of attributes (tag_symbol t (get_or t.tags r.place []))) ≡ r.id
        → due t scope attributes bound ≡ entry_of attributes (tag_symbol t (get_or t.tags r.place [])) ∷ due t scope attributes (suc r.id)
        → NextDue t bound (Some (Tag r))
    other_due : {r : Listed} → r.place < length t.others → id_of (entry_of attributes (other_symbol t (get_or t.others r.place []))) ≡ r.id
        → due t scope attributes bound ≡ entry_of attributes (other_symbol t (get_or t.others r.place [])) ∷ due t scope attributes (suc r.id)
        → NextDue t bound (Some (Other r))

  module _ (t : Tables) (memory : ℕ) (v : valid t memory ≡ true) (bound : ℕ) where
    head_due : head_of (due t scope attributes bound)
        ≡ join_least id_of (least id_of bound (entries scope attributes (tag_symbol t) t.tags))
        (least id_of bound (entries scope attributes (other_symbol t) t.others))
    unfolding due listing symbols
    head_due = search_finds id_of bound _ ∙ rw map-append (least-append id_of bound _ _)

    due_step : (e : Entry) (id : ℕ) → id_of e ≡ id → head_of (due t scope attributes bound) ≡ Some e
        → due t scope attributes bound ≡ e ∷ due t scope attributes (suc id)
    unfolding due
    due_step e id q h = from_step id_of bound (listing t scope attributes) e (listing_sorted scope attributes t memory v) h ∙ rw q

    both_tied : (a b : Option Listed) (x y : Option Entry) → Tied (tag_symbol t) t.tags a x → Tied (other_symbol t) t.others b y
        → head_of (due t scope attributes bound) ≡ join_least id_of x y → NextDue t bound (nearest a b)
    unfolding due
    both_tied None None None None neither neither h = none_due (from-none id_of bound (listing t scope attributes) h)
    both_tied (Some r) None (Some e) None (tied l q) neither h = tag_due l q (due_step e r.id q h)
    both_tied None (Some o) None (Some u) neither (tied l q) h = other_due l q (due_step u o.id q h)
    both_tied (Some r) (Some o) (Some e) (Some u) (tied l q) (tied m p) h =
        let same : ltb (id_of (entry_at (tag_symbol t) t.tags r.place)) (id_of (entry_at (other_symbol t) t.others o.place)) ≡ ltb r.id o.id = cc (q, p) in
        by_test (ltb r.id o.id) (λ b. rw b (tag_due l q (due_step e r.id q (rw (same, b) at h))))
        (λ b. rw b (other_due m p (due_step u o.id p (rw (same, b) at h))))
    both_tied (Some r) (Some o) None y x12 _ h = elim x12 [ ]
    both_tied (Some r) (Some o) (Some e) None _ x17 h = elim x17 [ ]
    both_tied (Some r) None None y x13 _ h = elim x13 [ ]
    both_tied (Some r) None (Some e) (Some u) _ x18 h = elim x18 [ ]
    both_tied None (Some o) None None _ x17 h = elim x17 [ ]
    both_tied None (Some o) (Some e) y x14 _ h = elim x14 [ ]
    both_tied None None None (Some u) _ x18 h = elim x18 [ ]
    both_tied None None (Some e) y x15 _ h = elim x15 [ ]

    pub next_due : NextDue t bound (next_in t.tags t.others scope bound)
    unfolding tag_symbol other_symbol
    next_due =
        both_tied _ _ _ _ (least_tied (tag_symbol t) (λ r. refl) t.tags bound) (least_tied (other_symbol t) (λ r. refl) t.others bound) head_due
