-- An answer by a chain of tests, from the facts of the branches that led to it: `search (needs, chain)`.
-- Assumes nothing.
use mathlib.Core.Path.{◌≡◌, refl, sym, ◌∙◌}
use mathlib.Core.Bool.{Bool, true, false, not}
use mathlib.Core.Logic.{◌≢◌}
use Prim.Native.Nat.{ℕ, zero, suc, ◌+◌, ◌-◌, ◌<◌, ◌≤◌}
use native.Mathlib.Omega.{arith}
use lib.Dec.{ltb, leb, eqb}
use borrow.Author.Tests.{lt-ltb, le-ltb, le-leb, lt-leb, eq-eqb, ne_eqb, leb-true, eqb-true, eqb-false, not-true, not-false}
use Rattle.laws.specs.Pick.{pick, both, either}

pub pick_yes : {A : Type 0} (t : Bool) (v a b : A) → t ≡ true → v ≡ a → v ≡ pick t a b
pick_yes t v a b e p = rw e p

pub pick_no : {A : Type 0} (t : Bool) (v a b : A) → t ≡ false → v ≡ b → v ≡ pick t a b
pick_no t v a b e p = rw e p

pub both_yes : (t u r : Bool) → t ≡ true → r ≡ u → r ≡ both t u
both_yes t u r e p = rw e p

pub both_no : (t u : Bool) → t ≡ false → false ≡ both t u
both_no t u e = rw e

-- a loop that goes on to a position further on: its measure falls, and what counts its turns stays below the position
pub falls_to : (e at n : ℕ) → at < e → at < n → e - n < e - at
falls_to e at n h l = omega arith

pub count_to : (k at n : ℕ) → k ≤ at → at < n → k + 1 ≤ n
count_to k at n h l = omega arith

pub both_on : (t u : Bool) → t ≡ true → u ≡ true → both t u ≡ true
both_on t u e f = rw (e, f)

pub both_off : (t u : Bool) → t ≡ false → both t u ≡ false
both_off t u e = rw e

pub both_off_2 : (t u : Bool) → u ≡ false → both t u ≡ false
both_off_2 true u e = e
both_off_2 false u e = refl

-- two constructors that are said to be equal: `clash (cc e)`
pub clash : {P : Type 0} → ◌≡◌ {A = ℕ} 0 1 → P
clash e = absurd (omega arith)

-- the value of a test that is made in place
pub ruleset tests = (both_on, both_off, both_off_2, lt-ltb, le-ltb, le-leb, lt-leb, eq-eqb, ne_eqb)

pub ruleset chain = (pick_yes, pick_no, both_yes, both_no, lt-ltb, le-ltb, le-leb, lt-leb, eq-eqb, ne_eqb)

-- a case by a test, with the test's outcome as a fact
pub by_test : {P : Type 0} (t : Bool) → (t ≡ true → P) → (t ≡ false → P) → P
by_test true f g = f refl
by_test false f g = g refl

pub pick-map : {A B : Type 0} (h : A → B) (t : Bool) (a b : A) → h (pick t a b) ≡ pick t (h a) (h b)
pick-map h true a b = refl
pick-map h false a b = refl

-- what holds of both answers holds of the one that is picked
pub pick_all : {A : Type 0} (P : A → Type 0) (t : Bool) {a b : A} → P a → P b → P (pick t a b)
pick_all P true p q = p
pick_all P false p q = q

-- the same where the test is on what a call returned: r or k is the result, and the first premise is the callee's `ensures`
pub pick_yes_by : {A : Type 0} (r t : Bool) (v a b : A) → r ≡ t → r ≡ true → v ≡ a → v ≡ pick t a b
pick_yes_by r t v a b q e p = rw (← q, e) p

pub pick_no_by : {A : Type 0} (r t : Bool) (v a b : A) → r ≡ t → r ≡ false → v ≡ b → v ≡ pick t a b
pick_no_by r t v a b q e p = rw (← q, e) p

pub both_yes_by : (s t u r : Bool) → s ≡ t → s ≡ true → r ≡ u → r ≡ both t u
both_yes_by s t u r q e p = rw (← q, e) p

pub both_no_by : (s t u : Bool) → s ≡ t → s ≡ false → false ≡ both t u
both_no_by s t u q e = rw (← q, e)

pub eq_by : (k x n : ℕ) → k ≡ x → k ≡ n → eqb x n ≡ true
eq_by k x n q e = eq-eqb x n (sym q ∙ e)

pub ne_by : (k x n : ℕ) → k ≡ x → (k ≡ n → ⊥) → eqb x n ≡ false
ne_by k x n q e = ne_eqb x n (λ r. e (q ∙ r))

pub lt_by : (k x n : ℕ) → k ≡ x → k < n → ltb x n ≡ true
lt_by k x n q h = lt-ltb x n (omega arith)

pub ge_by : (k x n : ℕ) → k ≡ x → n ≤ k → ltb x n ≡ false
ge_by k x n q h = le-ltb x n (omega arith)

pub ruleset by_call = (pick_yes_by, pick_no_by, both_yes_by, both_no_by, eq_by, ne_by, lt_by, ge_by)

-- one test or the other, and two tests that are not both met: also by what a call returned
pub either_yes : (t u : Bool) → t ≡ true → true ≡ either t u
either_yes t u e = rw e

pub either_no : (t u r : Bool) → t ≡ false → r ≡ u → r ≡ either t u
either_no t u r e p = rw e p

pub either_yes_by : (s t u : Bool) → s ≡ t → s ≡ true → true ≡ either t u
either_yes_by s t u q e = rw (← q, e)

pub either_no_by : (s t u r : Bool) → s ≡ t → s ≡ false → r ≡ u → r ≡ either t u
either_no_by s t u r q e p = rw (← q, e) p

pub ruleset eithers = (either_yes, either_no, either_yes_by, either_no_by)

pub unlike_yes : (t u : Bool) → t ≡ false → true ≡ not (both t u)
unlike_yes t u e = rw e

pub unlike_no : (t u r : Bool) → t ≡ true → r ≡ not u → r ≡ not (both t u)
unlike_no t u r e p = rw e p

pub unlike_same : (s t u : Bool) → t ≡ true → s ≡ u → not s ≡ not (both t u)
unlike_same s t u e p = rw (e, p)

pub ruleset unlike = (unlike_yes, unlike_no, unlike_same, eq-eqb, ne_eqb)

-- a chain of `if !f(x) { return false; }`, and of `if x > n { return false; }` where a call made x
pub both_kept : (s t u r : Bool) → s ≡ t → not s ≡ false → r ≡ u → r ≡ both t u
both_kept s t u r q e p = both_yes_by s t u r q (not-false s e) p

pub both-refused : (s t u : Bool) → s ≡ t → not s ≡ true → false ≡ both t u
both-refused s t u q e = both_no_by s t u q (not-true s e)

pub le_by : (k x n : ℕ) → k ≡ x → k ≤ n → leb x n ≡ true
le_by k x n q h = le-leb x n (omega arith)

pub gt_by : (k x n : ℕ) → k ≡ x → n < k → leb x n ≡ false
gt_by k x n q h = lt-leb x n (omega arith)

pub some_yes : (x : ℕ) → (x ≡ 0 → ⊥) → ltb 0 x ≡ true
some_yes x h = lt-ltb 0 x (omega arith)

pub some_no : (x : ℕ) → x ≡ 0 → ltb 0 x ≡ false
some_no x e = rw e

pub some_is : (x : ℕ) → not (eqb x 0) ≡ ltb 0 x
some_is x = by_test (eqb x 0) (λ t. rw (t, some_no x (eqb-true x 0 t))) (λ t. rw (t, some_yes x (eqb-false x 0 t)))

pub ruleset refusals = (both_kept, both-refused, both_yes, both_no, le_by, gt_by, some_yes, some_no, some_is, lt-ltb, le-ltb, le-leb, lt-leb, eq-eqb, ne_eqb)

-- ---- the last arm of a `match` on a number: none of those before k

abbrev pub Missed : (k n : ℕ) → Type 0
Missed zero n = Unit {0}
Missed (suc k) n = Missed k n × (n ≡ k → ⊥)

pub past : (k n : ℕ) → Missed k n → k ≤ n
past zero n m = omega arith
past (suc k) n m = let d : n ≢ k = m.1 in omega (arith, past k n m.0)
