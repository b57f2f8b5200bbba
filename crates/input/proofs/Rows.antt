-- The turns of the loops that read a row's words and a table's rows: one element more at the end. Assumes nothing.
use mathlib.Core.Path.{◌≡◌, refl, sym, ap, subst, ◌∙◌}
use mathlib.Core.List.{List, [], ◌∷◌, ◌++◌}
use Prim.Native.Nat.{ℕ, zero, suc, ◌+◌, ◌*◌, ◌<◌, ◌≤◌}
use native.Mathlib.Omega.{arith}
use native.Mathlib.Numerals.{add-one}
use native.Mathlib.Nat.{add-zero, mul-suc, mul-zero}
use mathlib.Core.Logic.{◌≢◌}
use lib.Dec.{eqb}
use borrow.Author.Tests.{eqb-true, eqb-false}
use Rattle.laws.proofs.Chain.{by_test}
use lib.ListN.{length, take, drop, set, get_or, replicate, length-set, length-replicate}
use Rattle.std.proofs.lemmas.List.{length-append, length-drop, length-take-le, take-append-le}
use mathlib.Core.List.{map}
use denote.Param.Members.{Mut}
use Rattle.std.specs.Fn.{Called}
use Rattle.std.specs.List.{range_with_len}
use Rattle.std.specs.Array.{IsFromFnResult, IsFromFnResultFrom}
use Rattle.std.proofs.lemmas.List.FromFn.{map-range_with_len_more, fill_by_all}
use lib.Seq.{take-suc-set}
use Rattle.definition.specs.Bytes.{u32_at}
use Rattle.input.specs.Rows.{words_at, rows_at}

-- a list that a loop fills from its start on, each element by a function of its index
module _ {A : Type 0} (whole : ℕ → List A) (next : ℕ → A) (more : (j : ℕ) → whole (suc j) ≡ whole j ++ (next j ∷ [])) where
  pub filled : (xs : List A) (j k : ℕ) (x : A) → take j xs ≡ whole j → j < length xs → x ≡ next j → k ≡ j + 1 → take k (set xs j x) ≡ whole k
  filled xs j k x e h f g =
      rw (g, add-one) (take-suc-set xs j x h ∙ ap (λ (l : List A). l ++ (x ∷ [])) e ∙ ap (λ (y : A). whole j ++ (y ∷ [])) f ∙ sym (more j))

words_more : (src : List ℕ) (at j : ℕ) → words_at src at (suc j) ≡ words_at src at j ++ (u32_at src (at + 4 * j) ∷ [])
unfolding words_at
words_more src at zero = rw (mul-zero, add-zero)
words_more src at (suc j) =
    let e : at + 4 + 4 * j ≡ at + 4 * suc j = omega arith in
    ap (λ (l : List ℕ). u32_at src at ∷ l) (words_more src (at + 4) j ∙ rw e)

rows_more : (src : List ℕ) (at width i : ℕ) → rows_at src at width (suc i) ≡ rows_at src at width i ++ (words_at src (at + 4 * width * i) width ∷ [])
unfolding rows_at
rows_more src at width zero = rw (mul-zero, add-zero)
rows_more src at width (suc i) =
    let e : at + 4 * width + 4 * width * i ≡ at + 4 * width * suc i = rw (mul-suc (4 * width)) (omega arith) in
    ap (λ (l : List (List ℕ)). words_at src at width ∷ l) (rows_more src (at + 4 * width) width i ∙ rw e)

to_the_end : {A : Type 0} (f : ℕ → List A) (xs : List A) (i n : ℕ) → take i xs ≡ f i → i ≤ n → n ≤ i → take n xs ≡ f n
to_the_end f xs i n e h l = let m : i ≡ n = omega arith in rw m at e

-- ---- a row: each word by its place

pub words_are : (src : List ℕ) (at width : ℕ) → map (λ k. u32_at src (at + 4 * k)) (range_with_len 0 width) ≡ words_at src at width
unfolding words_at
words_are src at zero = refl
words_are src at (suc j) =
    let f = λ (k : ℕ). u32_at src (at + 4 * k) in
    let e = map-range_with_len_more f 0 j j (omega arith) in
    rw add-one at e ∙ ap (λ (l : List ℕ). l ++ (f j ∷ [])) (words_are src at j) ∙ sym (words_more src at j)

module _ {F B : Type 0} {g : Mut F (ℕ × Unit {0}) B} {f : F} (h : ℕ → B) (ys : List B) (d : B) where
  each_is : ((k : ℕ) (y : B) (q : F) → Called g f (k, tt) y q → (q ≡ f) × (y ≡ h k))
      → (n i : ℕ) → IsFromFnResultFrom g f ys i n → (k : ℕ) → i ≤ k → k < i + n → get_or ys k d ≡ h k
  each_is law zero i e k l m = absurd (omega arith)
  each_is law (suc n) i (q, y, is, called, more) k l m =
      let at = law i y q called in
      by_test (eqb k i) (λ t. rw (eqb-true k i t) (is.1 d ∙ at.1))
      (λ t. let apart : k ≢ i = eqb-false k i t in
      each_is law n (i + 1) (subst (λ z. IsFromFnResultFrom g z ys (i + 1) n) at.0 more) k (omega arith) (omega arith))

  -- an array of what a closure says of each index
  pub from_fn_is : (n : ℕ) → IsFromFnResult g f ys n → ((k : ℕ) (y : B) (q : F) → Called g f (k, tt) y q → (q ≡ f) × (y ≡ h k))
      → ys ≡ map h (range_with_len 0 n)
  from_fn_is n e law = fill_by_all h ys n d e.long (λ k l. each_is law n 0 e.each k (omega arith) (omega arith))

-- ---- a table: i of its n rows are read

pub record RowsRead (src : List ℕ) (at width n : ℕ) (rows : List (List ℕ)) (i : ℕ) : Type 0 where
  pub long : length rows ≡ n
  pub read : take i rows ≡ rows_at src at width i

pub rows_start : (src : List ℕ) (at width n : ℕ) (rows : List (List ℕ)) → length rows ≡ n → RowsRead src at width n rows 0
unfolding rows_at
rows_start src at width n rows e = record { long = e; read = refl }

module _ (src : List ℕ) (at width n : ℕ) (rows : List (List ℕ)) (i : ℕ) (so_far : RowsRead src at width n rows i) where
  pub one_row : (row : List ℕ) → i < n → row ≡ words_at src (at + 4 * width * i) width → RowsRead src at width n (set rows i row) (i + 1)
  one_row row h e = record {
    long = length-set rows i row ∙ so_far.long;
    read = filled (rows_at src at width) (λ k. words_at src (at + 4 * width * k) width) (rows_more src at width) rows i (i + 1) row
        so_far.read (omega (arith, so_far.long)) e refl;
  }

  pub all_rows : (most : ℕ) (none : List ℕ) → n ≤ most → i ≤ n → n ≤ i
      → (most ≡ length (rows ++ drop n (replicate most none))) × (take n (rows ++ drop n (replicate most none)) ≡ rows_at src at width n)
  all_rows most none f h l =
      let spare = drop n (replicate most none) in (
        omega (arith, length-append rows spare, length-drop n (replicate most none), length-replicate most none, so_far.long),
        take-append-le n rows spare (omega (arith, so_far.long)) ∙ to_the_end (rows_at src at width) rows i n so_far.read h l,
      )

-- there is room for n of them
pub room_for : (n most : ℕ) (none : List ℕ) → n ≤ most → length (take n (replicate most none)) ≡ n
room_for n most none h = length-take-le n (replicate most none) (omega (arith, h, length-replicate most none))
