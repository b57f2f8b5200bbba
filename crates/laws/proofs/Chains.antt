-- The words of this crate and those of std's iterators: what `all`, `any` and `position` answer, and over a slice's elements at once from a call's `ran`.
-- Assumes nothing.
use mathlib.Core.Path.{◌≡◌, refl, sym, ap, ◌∙◌}
use mathlib.Core.Bool.{Bool, cond}
use mathlib.Core.List.{List, [], ◌∷◌}
use Prim.Native.Nat.{ℕ, suc, ◌+◌}
use native.Mathlib.Nat.{add-zero, zero-add}
use native.Mathlib.Omega.{arith}
use lib.Dec.{ltb}
use lib.ListN.{length}
use borrow.Author.Tests.{lt-ltb, le-ltb, ltb-true, ltb-false}
use denote.Param.Members.{Mut}
use Rattle.std.specs.Prelude.{Option, None, Some, position}
use Rattle.std.specs.Fn.{Called}
use Rattle.std.specs.Iterator.{ChecksAll, ChecksAny, FindsPosition}
use Rattle.std.specs.Slice.Iter.{iter_rest}
use Rattle.std.proofs.Common.{Bor, Iter}
use Rattle.std.proofs.iter.Yields.{fronts}
use Rattle.std.proofs.lemmas.Iterator.{YieldsList-from_slice}
use Rattle.std.proofs.lemmas.Iterator.Search.{all_from_yields_List, any_from_yields_List, position_from_yields_List}
use Rattle.std.specs.List.{list_all, list_any, position_or_len}
use Rattle.laws.specs.Scan.{scan}
use Rattle.laws.specs.Tests.{every, some_of}
use Rattle.laws.proofs.Chain.{by_test}

every-list_all : {A : Type 0} (p : A → Bool) (xs : List A) → list_all p xs ≡ every p xs
unfolding every
every-list_all p [] = refl
every-list_all p (x ∷ xs) = by_test (p x) (λ t. rw t (every-list_all p xs)) (λ t. rw t refl)

some_of-list_any : {A : Type 0} (p : A → Bool) (xs : List A) → list_any p xs ≡ some_of p xs
unfolding some_of
some_of-list_any p [] = refl
some_of-list_any p (x ∷ xs) = by_test (p x) (λ t. rw t refl) (λ t. rw t (some_of-list_any p xs))

-- the place i + k where k is one of n
abbrev placed : (i k n : ℕ) → Option ℕ
placed i k n = cond (ltb k n) (Some (i + k)) None

placed_here : (i n : ℕ) → placed i 0 (suc n) ≡ Some i
placed_here i n = rw (lt-ltb 0 (suc n) (omega arith), add-zero) refl

placed_next : (i k n : ℕ) → placed i (1 + k) (suc n) ≡ placed (suc i) k n
placed_next i k n =
    let e : i + (1 + k) ≡ suc i + k = omega arith in
    by_test (ltb k n) (λ t. let h = ltb-true k n t in rw (lt-ltb (1 + k) (suc n) (omega arith), t, e) refl)
    (λ t. let h = ltb-false k n t in rw (le-ltb (1 + k) (suc n) (omega arith), t) refl)

module _ {A : Type 0} (p : A → Bool) where
  scan-placed : (i : ℕ) (xs : List A) → placed i (position_or_len p xs) (length xs) ≡ scan p Some None i xs
  unfolding scan
  scan-placed i [] = refl
  scan-placed i (x ∷ xs) =
      by_test (p x) (λ t. rw t (placed_here i (length xs)))
      (λ t. rw t (placed_next i (position_or_len p xs) (length xs) ∙ scan-placed (suc i) xs))

  pub all_is : (xs : List A) (r : Bool) → r ≡ list_all p xs → r ≡ every p xs
  all_is xs r e = e ∙ every-list_all p xs

  pub any_is : (xs : List A) (r : Bool) → r ≡ list_any p xs → r ≡ some_of p xs
  any_is xs r e = e ∙ some_of-list_any p xs

  pub position_is : (xs : List A) (r : Option ℕ) → r ≡ position p xs → r ≡ scan p Some None 0 xs
  position_is xs r e = e ∙ ap (λ k. cond (ltb (position_or_len p xs) (length xs)) (Some k) None) (sym (zero-add (position_or_len p xs))) ∙ scan-placed 0 xs

-- what a closure f answers of an element is p of it, and a call leaves f as it was
abbrev pub TestsBy : {A F : Type 0} → Mut F (Bor A × Unit {0}) Bool → F → (A → Bool) → Type 0
TestsBy {A} {F} g f p = (x : Bor A) (b : Bool) (q : F) → Called g f (x, tt) b q → (q ≡ f) × (b ≡ p x.now)

-- the same of `xs.iter()`, from a call's `ran`
module _ {A F : Type 0} {g : Mut F (Bor A × Unit {0}) Bool} {s u : Iter A} {f : F} (p : A → Bool) (xs : List A) where
  pub all_slice : {r : Bool} → ChecksAll fronts g s f r u → iter_rest s ≡ xs → TestsBy g f p → r ≡ every p xs
  all_slice ran e h = all_is p xs _ (all_from_yields_List p u f _ ran (YieldsList-from_slice xs e) h)

  pub any_slice : {r : Bool} → ChecksAny fronts g s f r u → iter_rest s ≡ xs → TestsBy g f p → r ≡ some_of p xs
  any_slice ran e h = any_is p xs _ (any_from_yields_List p u f _ ran (YieldsList-from_slice xs e) h)

  pub position_slice : {r : Option ℕ} → FindsPosition fronts g s f r u → iter_rest s ≡ xs → TestsBy g f p → r ≡ scan p Some None 0 xs
  position_slice ran e h = position_is p xs _ (position_from_yields_List p u f _ ran (YieldsList-from_slice xs e) h)
