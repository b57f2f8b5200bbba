-- Rows whose spans keep apart have different names, different IDs, or no byte in common.
-- Assumes nothing.
use mathlib.Core.Path.{◌≡◌, refl, sym, ◌∙◌}
use mathlib.Core.Bool.{Bool, true, false, not}
use mathlib.Core.List.{List, [], ◌∷◌}
use Prim.Native.Nat.{ℕ, ◌+◌, ◌<◌}
use native.Mathlib.Nat.{add-sub_cancel_left}
use native.Mathlib.Omega.{arith}
use lib.Dec.{eqb}
use lib.ListN.{get_or, length, drop}
use borrow.Author.Tests.{lt-ltb, le-ltb, eqb-true, not-true}
use Rattle.std.specs.List.{fold}
use Rattle.std.proofs.lemmas.Bool.Decides.{nat_tests}
use Rattle.laws.specs.Pick.{both}
use Rattle.laws.specs.Tests.{every, pairs}
use Rattle.laws.specs.Zip.{agree}
use Rattle.laws.proofs.Chain.{clash}
use Rattle.laws.proofs.Tests.{both_true, both-none, every_by, pairs_by, every_broken, pairs_broken}
use Rattle.definition.specs.Names.{same_name, same_byte, lower}
use Rattle.definition.specs.Tables.{Tables, Row, tag_scope, tag_name, tag_id}
use Rattle.definition.specs.Valid.{tag_names_differ, other_names_differ, program_names_differ, ids_differ, apart}
use Rattle.rows.specs.Judged.{tag_pair, tag_other, pairs_judged}
use Rattle.rows.proofs.Regrouped.{tag-pairs, tags_and_others}
use Rattle.spread.specs.declared.Span.{Span}
use Rattle.spread.specs.Spread.{clear, SymbolsApart}
use Rattle.spread.specs.Keys.{mixed, name_key, symbol_key, tag_span, other_span, id_key, id_span, byte_span, of_symbol, symbols_judged}

-- ---- spans of symbols that keep apart

-- each two of the first n
abbrev Far : (ℕ → Span) → ℕ → Type 0
Far f n = (i j : ℕ) → i < j → j < n → clear (f i) (f j) ≡ true

far : (Has : ℕ → Span → Type 0) (f : ℕ → Span) (n : ℕ) → ((k : ℕ) (s : Span) → k < n → Has k s → s ≡ f k)
    → SymbolsApart Has n → Far f n
far Has f n is all i j h l =
    let p = all i j h l in
    let e = is i p.0 (omega arith) p.2 in
    let q = is j p.1 l p.3 in
    rw (← e, ← q) p.4

tag_of : {A : Type 0} (f g : Row → A) (tags others : List Row) (k : ℕ) → k < length tags → of_symbol f g tags others k ≡ f (get_or tags k [])
unfolding of_symbol
tag_of f g tags others k l = rw (lt-ltb k (length tags) l) refl

other_of : {A : Type 0} (f g : Row → A) (tags others : List Row) (j : ℕ) → of_symbol f g tags others (length tags + j) ≡ g (get_or others j [])
unfolding of_symbol
other_of f g tags others j = rw (le-ltb (length tags + j) (length tags) (omega arith), add-sub_cancel_left) refl

module _ (f g : Row → Span) (tags others : List Row) (at : Far (of_symbol f g tags others) (length tags + length others)) where
  tags_clear : (p : Row → Row → Bool) → ((a b : Row) → clear (f a) (f b) ≡ true → p a b ≡ true) → pairs p tags ≡ true
  tags_clear p q =
      pairs_by p [] tags
      (λ i j h l. q _ _ (rw (tag_of f g tags others i (omega arith), tag_of f g tags others j l) at (at i j h (omega arith))))

  both_clear : (p : Row → Row → Bool) → ((a b : Row) → clear (f a) (g b) ≡ true → p a b ≡ true) → every (λ a. every (p a) others) tags ≡ true
  both_clear p q =
      every_by (λ a. every (p a) others) [] tags
      (λ i l. every_by (p (get_or tags i [])) [] others
      (λ j h. q _ _ (rw (tag_of f g tags others i l, other_of f g tags others j) at (at i (length tags + j) (omega arith) (omega arith)))))

  others_clear : (p : Row → Row → Bool) → ((a b : Row) → clear (g a) (g b) ≡ true → p a b ≡ true) → pairs p others ≡ true
  others_clear p q =
      pairs_by p [] others
      (λ i j h l. q _ _ (rw (other_of f g tags others i, other_of f g tags others j) at
      (at (length tags + i) (length tags + j) (omega arith) (omega arith))))

-- ---- what clear spans say

same_key : (a b : List ℕ) (s : ℕ) → agree same_byte a b ≡ true → fold mixed s a ≡ fold mixed s b
unfolding agree
same_key [] [] s e = refl
same_key [] (y ∷ b) s e = clash (cc)
same_key (x ∷ a) [] s e = clash (cc)
same_key (x ∷ a) (y ∷ b) s e =
    let t = both_true (same_byte x y) (agree same_byte a b) e in
    rw (eqb-true (lower x) (lower y) t.0) (same_key a b (mixed s y) t.1)

same_symbol_key : (names_a names_b : List ℕ) (a b : Row)
    → both (eqb (tag_scope a) (tag_scope b)) (same_name (tag_name names_a a) (tag_name names_b b)) ≡ true
    → symbol_key names_a a ≡ symbol_key names_b b
unfolding name_key
same_symbol_key names_a names_b a b e =
    let t = both_true (eqb (tag_scope a) (tag_scope b)) _ e in
    rw (eqb-true (tag_scope a) (tag_scope b) t.0, same_key (tag_name names_a a) (tag_name names_b b) (tag_scope b) t.1) refl

-- spans that have a number in common, of rows that are alike in what a test compares
differ : (x y : Span) (t : Bool) → (t ≡ true → (x.first < y.end) × (y.first < x.end)) → clear x y ≡ true → not t ≡ true
differ x y false f e = refl
differ x y true f e = let m = f refl in grind (arith, nat_tests, m.0, m.1)

tag_names_lem : (tag_names : List ℕ) (a b : Row) → clear (tag_span tag_names a) (tag_span tag_names b) ≡ true → tag_names_differ tag_names a b ≡ true
unfolding tag_names_differ
tag_names_lem tag_names a b =
    differ (tag_span tag_names a) (tag_span tag_names b) _
    (λ t. let q = same_symbol_key tag_names tag_names a b t in (omega (arith, q), omega (arith, q)))

other-names : (tag_names names : List ℕ) (a b : Row) → clear (tag_span tag_names a) (other_span names b) ≡ true
    → other_names_differ tag_names names a b ≡ true
unfolding other_names_differ
other-names tag_names names a b =
    differ (tag_span tag_names a) (other_span names b) _
    (λ t. let q = same_symbol_key tag_names names a b t in (omega (arith, q), omega (arith, q)))

ids : (a b : Row) → clear (id_span a) (id_span b) ≡ true → ids_differ a b ≡ true
unfolding ids_differ
ids a b =
    differ (id_span a) (id_span b) _
    (λ t. let u = both_true (eqb (tag_scope a) (tag_scope b)) (eqb (tag_id a) (tag_id b)) t in
    let q : id_key a ≡ id_key b = rw (eqb-true (tag_scope a) (tag_scope b) u.0, eqb-true (tag_id a) (tag_id b) u.1) refl in
    (omega (arith, q), omega (arith, q)))

-- ---- from spans that keep apart to the tests

module _ (Has : ℕ → Span → Type 0) (tags others : List Row) where
  pub names_far : (tag_names names : List ℕ)
      → ((k : ℕ) (s : Span) → k < length tags + length others → Has k s → s ≡ of_symbol (tag_span tag_names) (other_span names) tags others k)
      → SymbolsApart Has (length tags + length others)
      → (pairs (tag_names_differ tag_names) tags ≡ true) × (every (λ a. every (other_names_differ tag_names names a) others) tags ≡ true)
  names_far tag_names names is all =
      let at = far Has (of_symbol (tag_span tag_names) (other_span names) tags others) _ is all in
      (tags_clear _ _ tags others at _ (tag_names_lem tag_names), both_clear _ _ tags others at _ (other-names tag_names names))

  pub ids_far : ((k : ℕ) (s : Span) → k < length tags + length others → Has k s → s ≡ of_symbol id_span id_span tags others k)
      → SymbolsApart Has (length tags + length others)
      → (pairs ids_differ tags ≡ true) × (every (λ a. every (ids_differ a) others) tags ≡ true) × (pairs ids_differ others ≡ true)
  ids_far is all =
      let at = far Has (of_symbol id_span id_span tags others) _ is all in
      (tags_clear _ _ tags others at _ ids, both_clear _ _ tags others at _ ids, others_clear _ _ tags others at _ ids)

pub bytes_far : (Has : ℕ → Span → Type 0) (structures tags : List Row)
    → ((k : ℕ) (s : Span) → k < length tags → Has k s → s ≡ byte_span structures (get_or tags k []))
    → SymbolsApart Has (length tags) → pairs (apart structures) tags ≡ true
unfolding apart
bytes_far Has structures tags is all = pairs_by (apart structures) [] tags (far Has (λ k. byte_span structures (get_or tags k [])) _ is all)

-- ---- all tests of two symbols, and of programs besides

-- three tests of four that are not met
cut : (a b c d : Bool) → both a (both b c) ≡ false → both a (both b (both c d)) ≡ false
cut true true true d e = clash (cc)
cut true true false d e = refl
cut true false c d e = refl
cut false b c d e = refl

module _ (t : Tables) where
  pub all_sure : pairs (apart t.structures) t.tags ≡ true
      → (pairs ids_differ t.tags ≡ true) × (every (λ a. every (ids_differ a) t.others) t.tags ≡ true) × (pairs ids_differ t.others ≡ true)
      → (pairs (tag_names_differ t.tag_names) t.tags ≡ true) × (every (λ a. every (other_names_differ t.tag_names t.names a) t.others) t.tags ≡ true)
      → symbols_judged t ≡ true
  unfolding symbols_judged
  all_sure b i n = rw (tag-pairs t.structures t.tag_names t.tags, tags_and_others t.tag_names t.names t.tags t.others, n.0, i.0, b, n.1, i.1, i.2)

  pub programs_left : (r : Bool) → symbols_judged t ≡ true → r ≡ pairs (program_names_differ t.names) t.programs
      → r ≡ pairs_judged t.structures t.programs t.tags t.others t.names t.tag_names
  unfolding symbols_judged pairs_judged
  programs_left r e q =
      let u = both_true (pairs (tag_pair t.structures t.tag_names) t.tags) _ e in
      let v = both_true (every (λ r. every (tag_other t.tag_names t.names r) t.others) t.tags) (pairs ids_differ t.others) u.1 in
      rw (u.0, v.0, v.1) q

  pub not-all : (r : Bool) → symbols_judged t ≡ false → r ≡ false → r ≡ pairs_judged t.structures t.programs t.tags t.others t.names t.tag_names
  unfolding symbols_judged pairs_judged
  not-all r e q =
      q ∙ sym (cut (pairs (tag_pair t.structures t.tag_names) t.tags) (every (λ r. every (tag_other t.tag_names t.names r) t.others) t.tags)
      (pairs ids_differ t.others) (pairs (program_names_differ t.names) t.programs) e)

  -- a symbol fails against one behind it, by its kind
  pub tag_fails : (i : ℕ) (r : Bool) → i < length t.tags → r ≡ every (tag_pair t.structures t.tag_names (get_or t.tags i [])) (drop (i + 1) t.tags)
      → not r ≡ true → symbols_judged t ≡ false
  unfolding symbols_judged
  tag_fails i r h e q = rw (pairs_broken (tag_pair t.structures t.tag_names) [] t.tags i h (sym e ∙ not-true r q))

  pub tag_fails_other : (i : ℕ) (r : Bool) → i < length t.tags → r ≡ every (tag_other t.tag_names t.names (get_or t.tags i [])) t.others
      → not r ≡ true → symbols_judged t ≡ false
  unfolding symbols_judged
  tag_fails_other i r h e q =
      rw (
        every_broken (λ a. every (tag_other t.tag_names t.names a) t.others) [] t.tags i h (sym e ∙ not-true r q),
        both-none (pairs (tag_pair t.structures t.tag_names) t.tags),
      )

  pub other_fails : (i : ℕ) (r : Bool) → i < length t.others → r ≡ every (ids_differ (get_or t.others i [])) (drop (i + 1) t.others)
      → not r ≡ true → symbols_judged t ≡ false
  unfolding symbols_judged
  other_fails i r h e q = simp (pairs_broken ids_differ [] t.others i h (sym e ∙ not-true r q), both-none)
