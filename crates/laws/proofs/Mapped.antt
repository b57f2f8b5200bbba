-- What `find_map` answers: the first of what its closure says of the items. Assumes nothing.
use mathlib.Core.Path.{◌≡◌, refl, sym, ◌∙◌, ap, subst}
use mathlib.Core.List.{List, [], ◌∷◌, ◌++◌, map}
use Prim.Native.Nat.{ℕ, zero, suc, ◌+◌, ◌<◌}
use native.Mathlib.Numerals.{add-one}
use native.Mathlib.Omega.{arith}
use denote.Param.Members.{Mut}
use Rattle.std.specs.Prelude.{Option, None, Some, slice_get}
use Rattle.std.specs.Bool.{IsTrue}
use Rattle.std.specs.Fn.{Called}
use Rattle.std.specs.List.{range_with_len}
use Rattle.std.specs.Option.{MatchOption, IfSome, IsSomeAnd}
use Rattle.std.specs.Iterator.{Yields}
use Rattle.std.specs.Iterator.Runs.{SomeRun, YieldsRun, CallKeepsClosure, AllItemsGive, IsFirstToGive}
use Rattle.std.proofs.iter.Yields.{gives_left, gives_Drains}
use Rattle.std.proofs.lemmas.Option.{IfSome_then}
use Rattle.std.proofs.lemmas.Iterator.{YieldsList}
use Rattle.laws.specs.First.{or_else, first_of}

-- what h says first of the elements
abbrev pub first_in : {A B : Type 0} → (A → Option B) → List A → Option B
first_in h [] = None
first_in h (x ∷ xs) = or_else (h x) (first_in h xs)

pub first_in_range : {B : Type 0} (f : ℕ → Option B) (a n : ℕ) → first_in f (range_with_len a n) ≡ first_of f a n
unfolding first_of
first_in_range f a zero = refl
first_in_range f a (suc n) = ap (or_else (f a)) (rw add-one (first_in_range f (suc a) n))

module _ {A B D : Type 0} (v : A → B) (h : B → Option D) where
  says_nothing : (xs : List A) → ((k : ℕ) → IfSome (slice_get xs k) (λ x. None ≡ h (v x))) → None ≡ first_in h (map v xs)
  says_nothing [] q = refl
  says_nothing (x ∷ xs) q = says_nothing xs (λ k. q (suc k)) ∙ ap (λ o. or_else o (first_in h (map v xs))) (q 0)

  says_first : (xs : List A) (i : ℕ) (d : D) (more : List B) → IsSomeAnd (slice_get xs i) (λ x. Some d ≡ h (v x))
      → ((k : ℕ) → k < i → IsSomeAnd (slice_get xs k) (λ x. None ≡ h (v x))) → Some d ≡ first_in h (map v xs ++ more)
  says_first [] i d more e q = absurd e
  says_first (x ∷ xs) zero d more e q = ap (λ o. or_else o (first_in h (map v xs ++ more))) e
  says_first (x ∷ xs) (suc i) d more e q =
      says_first xs i d more e (λ k l. q (suc k) (omega (arith, l))) ∙ ap (λ o. or_else o (first_in h (map v xs ++ more))) (q 0 (omega arith))

then_some : {X : Type 0} (o : Option X) {P Q : X → Type 0} → IsSomeAnd o P → ((x : X) → P x → Q x) → IsSomeAnd o Q
then_some None p q = absurd p
then_some (Some x) p q = q x p

module _ {S A B C D F : Type 0} {steps : S → Option A → S → Type 0} {v : A → B} {g : Mut F (A × Unit {0}) (Option C)} {s : S} {all : List B} {f : F}
    (h : B → Option D) (w : Option C → Option D) (of : C → D) where
  -- A run of `find_map`, whose closure says of an item what h says, read by w: from the call's `runs`.
  pub first_mapped : {r : Option C}
      → SomeRun steps s (λ p. MatchOption r (IsTrue p.whole × AllItemsGive p g f None)
      (λ y. (i : ℕ) × (i < p.len) × (p.len ≡ i + 1) × IsFirstToGive p g f (Some y) None i))
      → YieldsList steps v s all → ((x : A) (o : Option C) (q : F) → Called g f (x, tt) o q → (q ≡ f) × (w o ≡ h (v x)))
      → w None ≡ None → ((c : C) → w (Some c) ≡ Some (of c)) → w r ≡ first_in h all
  unfolding YieldsRun
  first_mapped {r} (p, from, ends) road law none some = by r ends
    where
      there : (k : ℕ) → p.at k ≡ slice_get p.items k
      there k = p.gave.1 k

      yields : Yields steps s p.items p.gave.0.0
      yields = subst (λ z. Yields steps z p.items p.gave.0.0) from p.gave.0.1

      keeps : CallKeepsClosure g f
      keeps a o q k = (law a.0 o q k).0

      says : (o : Option C) (m : Option D) → w o ≡ m → (x : A) → Called g f (x, tt) o f → m ≡ h (v x)
      says o m e x k = sym e ∙ (law x o f k).1

      by : (o : Option C)
          → MatchOption o (IsTrue p.whole × AllItemsGive p g f None) (λ y. (i : ℕ) × (i < p.len) × (p.len ≡ i + 1) × IsFirstToGive p g f (Some y) None i)
          → w o ≡ first_in h all
      by None (whole, gives) =
          let end = p.gave.0.2 whole in
          none ∙ says_nothing v h p.items
          (λ k. subst (λ o. IfSome o (λ x. None ≡ h (v x))) (there k) (IfSome_then (p.at k) (gives keeps k) (says None None none)))
          ∙ ap (first_in h) (gives_Drains steps v p.items all s road.runs (end.0, (p.gave.0.0, yields, end.1)))
      by (Some y) (i, low, len, is) =
          let left = gives_left steps v p.items all s p.gave.0.0 road.runs yields in
          some y ∙ says_first v h p.items i (of y) left.0
          (subst (λ o. IsSomeAnd o (λ x. Some (of y) ≡ h (v x))) (there i) (then_some (p.at i) (is keeps).0 (says (Some y) (Some (of y)) (some y))))
          (λ k l. subst (λ o. IsSomeAnd o (λ x. None ≡ h (v x))) (there k) (then_some (p.at k) ((is keeps).1 k l) (says None None none)))
          ∙ ap (first_in h) (sym left.1)
