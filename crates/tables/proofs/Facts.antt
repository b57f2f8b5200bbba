-- What the code says of a test by its rule and its tables is what the definition's test has.
-- Assumes nothing.
use Rattle.std.specs.Prelude.{◌≡◌, refl, Bool, true, false, List, [], ◌∷◌, ℕ, suc, ◌<◌, leb, length, take, drop, ◌-◌, Option, None, Some}
use Rattle.std.specs.List.{enumerate_from}
use native.Mathlib.Numerals.{add-one}
use lib.ListN.{length-drop}
use lib.Seq.{take-length}
use Rattle.std.proofs.Common.{arith, ◌∙◌}
use Rattle.laws.specs.Pick.{both}
use Rattle.laws.specs.Tests.{every, every_from, pairs}
use Rattle.laws.specs.First.{first_of}
use Rattle.laws.proofs.Mapped.{first_in}
use Rattle.definition.specs.Tables.{Tables}
use Rattle.definition.specs.Breach.{Test as DefinedTest, tell, tests, test_breach, breach, counts, structure_rules, member_rules, program_rules, tag_rules, other_rules, clashes}
use Rattle.std.specs.Option.{MatchOption, IsSomeAnd}
use Rattle.definition.specs.Valid.{valid}
use Rattle.rows.specs.Judged.{judged, few_enough, counts7}
use Rattle.rows.proofs.Regrouped.{judged_is_valid}
use Rattle.tables.specs.declared.TheConstants.{TABLES}
use Rattle.tables.specs.declared.rules.Place.{Place}
use Rattle.tables.specs.declared.rules.Rule.{Rule}
use Rattle.tables.specs.declared.rules.Table.{Table}
use Rattle.tables.specs.declared.test.Test.{Test}
use Rattle.tables.specs.declared.test.Test.TheVariants.{Count, Structure, Member, Program, Tag, Other, EarlierType, InsideStructure, ProgramNames, TagNames, TagOtherNames, TagIds, TagOtherIds, OtherIds, TagBytes}
use Rattle.tables.specs.Rules.{rule_number, table_number, other_number, place_table, place_row, count_in, limit_of, breach_of}
use Rattle.tables.specs.declared.test.TheConstants.{TESTS}
use Rattle.tables.specs.Tests.{structure_passes, member_passes, program_passes, tag_passes, other_passes, test_of, rule_of, table_of, other_of}

-- the rows of the other table, one turn where there is none
abbrev pub others_in : Option Table → Tables → (memory : ℕ) → ℕ
others_in None t memory = 1
others_in (Some x) t memory = count_in x t memory

record Has (x : Test) (t : Tables) (memory : ℕ) (d : DefinedTest) : Type 0 where
  rule : rule_number (rule_of x) ≡ d.rule
  table : table_number (table_of x) ≡ d.table
  other : other_number (other_of x) ≡ d.other_table
  others : others_in (other_of x) t memory ≡ d.others

has : (x : Test) (t : Tables) (memory : ℕ) → Has x t memory (test_of x t memory)
unfolding clashes
has (Count x) t memory = record { rule = refl; table = refl; other = refl; others = refl }
has (Structure x) t memory = record { rule = refl; table = refl; other = refl; others = refl }
has (Member x) t memory = record { rule = refl; table = refl; other = refl; others = refl }
has (Program x) t memory = record { rule = refl; table = refl; other = refl; others = refl }
has (Tag x) t memory = record { rule = refl; table = refl; other = refl; others = refl }
has (Other x) t memory = record { rule = refl; table = refl; other = refl; others = refl }
has EarlierType t memory = record { rule = refl; table = refl; other = refl; others = refl }
has InsideStructure t memory = record { rule = refl; table = refl; other = refl; others = refl }
has ProgramNames t memory = record { rule = refl; table = refl; other = refl; others = refl }
has TagNames t memory = record { rule = refl; table = refl; other = refl; others = refl }
has TagOtherNames t memory = record { rule = refl; table = refl; other = refl; others = refl }
has TagIds t memory = record { rule = refl; table = refl; other = refl; others = refl }
has TagOtherIds t memory = record { rule = refl; table = refl; other = refl; others = refl }
has OtherIds t memory = record { rule = refl; table = refl; other = refl; others = refl }
has TagBytes t memory = record { rule = refl; table = refl; other = refl; others = refl }

module _ (x : Test) (t : Tables) (memory : ℕ) where
  pub others_are : {o : Option Table} → o ≡ other_of x → others_in o t memory ≡ (test_of x t memory).others
  others_are e = rw e (has x t memory).others

  -- a row by itself is told at row 0 of no table
  placed : (o : Option Table) (m : Option Place) {P : Table → Place → Type 0} (i : ℕ) → MatchOption o (m ≡ None) (λ y. IsSomeAnd m (P y))
      → ((y : Table) (p : Place) → P y p → p ≡ record { table = y; row = i }) → i < others_in o t memory
      → (other_number (place_table m) ≡ other_number o) × (place_row m ≡ i)
  placed None m i e f h = rw e (refl, omega arith)
  placed (Some y) None i e f h = absurd e
  placed (Some y) (Some p) i e f h = rw (f y p e) (refl, refl)

  pub tells : {r : Rule} {k : Table} {o : Option Table} (m : Option Place) {P : Table → Place → Type 0} (i j : ℕ) → r ≡ rule_of x → k ≡ table_of x
      → o ≡ other_of x → MatchOption o (m ≡ None) (λ y. IsSomeAnd m (P y)) → ((y : Table) (p : Place) → P y p → p ≡ record { table = y; row = i })
      → i < (test_of x t memory).others
      → breach_of record { rule = r; at = record { table = k; row = j }; other = m } ≡ tell (test_of x t memory) i j
  tells {r} {k} {o} m i j p q e c f h =
      let other = placed o m i c f (rw (others_are e) h) in
      rw (p, q, other.0, other.1, e, (has x t memory).rule, (has x t memory).table, (has x t memory).other) refl

-- ---- the code's tests are the definition's, in its order: what they tell first

pub tests_told : (t : Tables) (memory : ℕ) → first_in (λ x. test_breach (test_of x t memory)) TESTS ≡ breach t memory
unfolding breach tests counts structure_rules member_rules program_rules tag_rules other_rules clashes structure_passes member_passes program_passes tag_passes
    other_passes first_of test_breach
tests_told t memory = refl

-- ---- validity

every_enumerated : {A : Type 0} (p : ℕ → A → Bool) (i : ℕ) (xs : List A) → every (λ x. p x.0 x.1) (enumerate_from i xs) ≡ every_from p i xs
unfolding every every_from
every_enumerated p i [] = refl
every_enumerated p i (x ∷ xs) = rw (add-one, every_enumerated p (suc i) xs) refl

pub every_counted : {A : Type 0} (p : ℕ → A → Bool) (xs : List A) (r : Bool) → r ≡ every (λ x. p x.0 x.1) (enumerate_from 0 xs) → r ≡ every_from p 0 xs
every_counted p xs r e = e ∙ every_enumerated p 0 xs

-- the counts, the last of which stands before the end of the list
and-true : (b : Bool) → both b true ≡ b
and-true true = refl
and-true false = refl

pub few : (t : Tables) (memory : ℕ) → every (λ x. leb (count_in x t memory) (limit_of x)) TABLES ≡ few_enough t memory
unfolding every counts7
few t memory = rw and-true refl

pub valid_by : (t : Tables) (memory : ℕ) (r : Bool) → r ≡ judged t memory → r ≡ valid t memory
valid_by t memory r e = e ∙ judged_is_valid t memory

-- ---- each row against those behind it, from a row on

module _ {A : Type 0} (p : A → A → Bool) (rest rows : List A) (here : pairs p rest ≡ pairs p rows) where
  module _ (x : A) (xs : List A) (r : Bool) (is : rest ≡ x ∷ xs) (e : r ≡ every (p x) xs) where
    pub pairs_on : r ≡ true → pairs p xs ≡ pairs p rows
    unfolding pairs
    pairs_on y = rw (is, ← e, y) at here

    pub pairs_off : r ≡ false → false ≡ pairs p rows
    unfolding pairs
    pairs_off y = rw (is, ← e, y) at here

pub pairs_all : {A : Type 0} (p : A → A → Bool) (rest rows : List A) → pairs p rest ≡ pairs p rows → length rest ≡ 0 → true ≡ pairs p rows
unfolding pairs
pairs_all p [] rows here e = here
pairs_all p (x ∷ xs) rows here e = absurd (omega (arith, e))

-- what stands behind a row, as a slice has it
pub behind : {A : Type 0} (p : A → Bool) (xs : List A) (n : ℕ) (r : Bool) → r ≡ every p (take (length xs - n) (drop n xs)) → r ≡ every p (drop n xs)
behind p xs n r e = rw (← length-drop n xs, take-length) at e
