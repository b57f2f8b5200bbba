-- The entry by its two ways: one of the four refusals, with nothing written, or the dispatcher's answer laid into the buffer.
-- Assumes nothing.
use mathlib.Core.Path.{◌≡◌}
use mathlib.Core.Bool.{true}
use mathlib.Core.List.{List}
use Prim.Native.Nat.{ℕ, ◌≤◌, ◌<◌}
use native.Mathlib.Omega.{arith}
use lib.Dec.{ltb}
use lib.ListN.{length}
use borrow.Author.Tests.{ltb-false}
use Rattle.laws.proofs.Chain.{by_test}
use Rattle.definition.specs.Reply.{room}
use Rattle.definition.specs.Tables.{Tables, Flags}
use Rattle.definition.specs.Valid.{valid}
use Rattle.definition.specs.Answer.{answer}
use Rattle.definition.specs.Entry.{refuse, lay, entry}

pub data Ways (t : Tables) (f : Flags) (memory message : List ℕ) (limit : ℕ) (buffer : List ℕ) : Type 0 where
  stopped : (number : ℕ) → 0 < number → number ≤ 4 → entry t f memory message limit buffer ≡ refuse number buffer memory
      → Ways t f memory message limit buffer
  taken : length message ≤ 65535 → limit ≤ 65535 → room limit ≤ length buffer → valid t (length memory) ≡ true
      → entry t f memory message limit buffer ≡ lay limit buffer (answer t f memory message limit) → Ways t f memory message limit buffer

pub enters : (t : Tables) (f : Flags) (memory message : List ℕ) (limit : ℕ) (buffer : List ℕ) → Ways t f memory message limit buffer
unfolding entry
enters t f memory message limit buffer =
    by_test (ltb 65535 (length message)) (λ a. stopped 1 (omega arith) (omega arith) (rw a))
    (λ a. by_test (ltb 65535 limit) (λ b. stopped 2 (omega arith) (omega arith) (rw (a, b)))
    (λ b. by_test (ltb (length buffer) (room limit)) (λ c. stopped 3 (omega arith) (omega arith) (rw (a, b, c)))
    (λ c. by_test (valid t (length memory))
    (λ d. taken (ltb-false _ _ a) (ltb-false _ _ b) (ltb-false _ _ c) d (rw (a, b, c, d)))
    (λ d. stopped 4 (omega arith) (omega arith) (rw (a, b, c, d))))))
