-- The first of some numbers of which there is something to say: where there is none, where there is one, and the loop that looks for it, whose invariant
-- is `first_of f i (e - i) ≡ whole`. Assumes nothing.
use mathlib.Core.Path.{◌≡◌, refl, ◌∙◌, ap}
use mathlib.Core.Bool.{Bool, true, false}
use mathlib.Core.List.{List}
use Rattle.std.specs.Prelude.{Option, None, Some}
use Prim.Native.Nat.{ℕ, zero, suc, ◌+◌, ◌<◌, ◌≤◌}
use native.Mathlib.Omega.{arith}
use lib.Dec.{eqb}
use lib.ListN.{length, get_or}
use borrow.Author.Tests.{eqb-true, eqb-false}
use mathlib.Core.Logic.{◌≢◌}
use Rattle.laws.specs.First.{or_else, first_of}
use Rattle.laws.specs.Tests.{every}
use Rattle.laws.proofs.Chain.{by_test, clash}
use Rattle.laws.proofs.Tests.{equal_tests, every_at, every_by}

or_none_lem : {A : Type 0} (o p : Option A) → or_else o p ≡ None → (o ≡ None) × (p ≡ None)
or_none_lem None p e = (refl, e)
or_none_lem (Some a) p e = clash (cc)

module _ {A : Type 0} (f : ℕ → Option A) where
  -- where there is nothing to say
  pub first_all : (at n k : ℕ) → first_of f at n ≡ None → at ≤ k → k < at + n → f k ≡ None
  unfolding first_of
  first_all at zero k e h l = absurd (omega arith)
  first_all at (suc n) k e h l =
      let s = or_none_lem (f at) (first_of f (suc at) n) e in
      by_test (eqb k at) (λ q. ap f (eqb-true k at q) ∙ s.0)
      (λ q. let d : k ≢ at = eqb-false k at q in first_all (suc at) n k s.1 (omega arith) (omega arith))

  pub first_none : (at n : ℕ) → ((k : ℕ) → at ≤ k → k < at + n → f k ≡ None) → first_of f at n ≡ None
  unfolding first_of
  first_none at zero h = refl
  first_none at (suc n) h = rw (h at (omega arith) (omega arith)) (first_none (suc at) n (λ k l m. h k (omega arith) (omega arith)))

  -- where there is something: of which number, and nothing of those before it
  pub record First (at n : ℕ) (a : A) : Type 0 where
    pub number : ℕ
    pub low : at ≤ number
    pub high : number < at + n
    pub says : f number ≡ Some a
    pub before : (k : ℕ) → at ≤ k → k < number → f k ≡ None

  first_here : (at n : ℕ) (a : A) → f at ≡ Some a → First at (suc n) a
  first_here at n a e = record { number = at; low = omega arith; high = omega arith; says = e; before = λ k h l. absurd (omega arith) }

  first_later : (at n : ℕ) (a : A) → f at ≡ None → First (suc at) n a → First at (suc n) a
  first_later at n a e r = record {
    number = r.number;
    low = omega (arith, r.low);
    high = omega (arith, r.high);
    says = r.says;
    before = λ k h l. by_test (eqb k at) (λ q. ap f (eqb-true k at q) ∙ e) (λ q. let d : k ≢ at = eqb-false k at q in r.before k (omega arith) l);
  }

  first_or : (at n : ℕ) (a : A) (o : Option A) → f at ≡ o → or_else o (first_of f (suc at) n) ≡ Some a
      → (first_of f (suc at) n ≡ Some a → First (suc at) n a) → First at (suc n) a
  first_or at n a None q e later = first_later at n a q (later e)
  first_or at n a (Some b) q e later = first_here at n a (q ∙ e)

  pub first_some : (at n : ℕ) (a : A) → first_of f at n ≡ Some a → First at n a
  unfolding first_of
  first_some at zero a e = clash (cc)
  first_some at (suc n) a e = first_or at n a (f at) refl e (λ q. first_some (suc at) n a q)

-- ---- whether there is nothing to say, of each element of a list

abbrev pub is_none : {A : Type 0} → Option A → Bool
is_none None = true
is_none (Some a) = false

pub none_is : {A : Type 0} (o : Option A) → is_none o ≡ true → o ≡ None
none_is None e = refl
none_is (Some a) e = clash (cc)

pub first_every : {A B : Type 0} (g : A → Option B) (d : A) (xs : List A)
    → is_none (first_of (λ n. g (get_or xs n d)) 0 (length xs)) ≡ every (λ x. is_none (g x)) xs
first_every g d xs =
    equal_tests _ _
    (λ e. every_by _ d xs (λ i h. ap is_none (first_all (λ n. g (get_or xs n d)) 0 (length xs) i (none_is _ e) (omega arith) (omega arith))))
    (λ e. ap is_none (first_none _ 0 (length xs) (λ k h l. none_is _ (every_at (λ x. is_none (g x)) d xs k e (omega arith)))))

-- ---- the loop: nothing to say of the numbers before i
