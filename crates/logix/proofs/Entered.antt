-- The entry by its refusals, in their order, and by its answer.
-- Assumes nothing.
use mathlib.Core.Path.{◌≡◌, refl}
use mathlib.Core.Bool.{true}
use mathlib.Core.List.{List}
use Rattle.std.specs.Prelude.{Result, Ok, Err}
use Prim.Native.Nat.{ℕ, ◌<◌, ◌≤◌}
use lib.Dec.{ltb}
use lib.ListN.{length}
use borrow.Author.Tests.{lt-ltb, le-ltb, ltb-false}
use Rattle.laws.proofs.Chain.{by_test, clash}
use Rattle.definition.specs.Reply.{room}
use Rattle.definition.specs.Tables.{Tables, Flags}
use Rattle.definition.specs.Valid.{valid}
use Rattle.definition.specs.Answer.{answer}
use Rattle.definition.specs.Entry.{Entered, refuse, lay, entry}
use Rattle.services.specs.Answers.{Answers}
use Rattle.logix.specs.declared.entry.Refusal.TheVariants.{RequestTooLong}
use Rattle.logix.specs.declared.entry.Refusal.{Refusal}
use Rattle.logix.specs.Entering.{number_of, entered, Enters}

-- what passes the tests
pub entered-all : (t : Tables) (memory limit buffer : ℕ) → Ok tt ≡ entered t memory limit buffer
    → (limit ≤ 65535) × (room limit ≤ buffer) × (valid t memory ≡ true)
unfolding entered
entered-all t memory limit buffer e =
    by_test (ltb 65535 limit) (λ a. clash (cc (rw a at e)))
    (λ a. by_test (ltb buffer (room limit)) (λ b. clash (cc (rw (a, b) at e)))
    (λ b. by_test (valid t memory) (λ v. (ltb-false 65535 limit a, ltb-false buffer (room limit) b, v)) (λ v. clash (cc (rw (a, b, v) at e)))))

module _ (t : Tables) (f : Flags) (memory request : List ℕ) (limit : ℕ) (buffer : List ℕ) where
  abbrev Comes : Result ℕ Refusal → (new after : List ℕ) → Type 0
  Comes = Enters (entry t f memory request limit buffer)

  pub enters_long : 65535 < length request → Comes (Err RequestTooLong) buffer memory
  unfolding entry
  enters_long h = rw (lt-ltb 65535 (length request) h) (record { outcome_is = refl; buffer_is = refl; memory_is = refl })

  -- what it comes to behind the test of the request's length
  abbrev behind : Result (Unit {0}) Refusal → Entered
  behind (Err why) = refuse (number_of why) buffer memory
  behind (Ok unit) = lay limit buffer (answer t f memory request limit)

  module _ (short : length request ≤ 65535) where
    entry_behind : entry t f memory request limit buffer ≡ behind (entered t (length memory) limit (length buffer))
    unfolding entry entered
    entry_behind =
        rw (le-ltb 65535 (length request) short)
        (by_test (ltb 65535 limit) (λ a. rw a refl)
        (λ a. by_test (ltb (length buffer) (room limit)) (λ b. rw (a, b) refl)
        (λ b. by_test (valid t (length memory)) (λ v. rw (a, b, v) refl) (λ v. rw (a, b, v) refl))))

    pub enters_refused : (why : Refusal) → Err why ≡ entered t (length memory) limit (length buffer) → Comes (Err why) buffer memory
    enters_refused why e = rw (entry_behind, ← e) (record { outcome_is = refl; buffer_is = refl; memory_is = refl })

    pub enters_well : Ok tt ≡ entered t (length memory) limit (length buffer) → (r : ℕ) (new after : List ℕ)
        → Answers limit (answer t f memory request limit) buffer r new after → Comes (Ok r) new after
    enters_well e r new after h = rw (entry_behind, ← e) (record { outcome_is = h.length_is; buffer_is = h.buffer_is; memory_is = h.memory_is })
