-- The chain answers as the library's law of it says, which is the definition's.
use Rattle.std.proofs.Common.{rules, tests}
use Prim.Native.Nat.{ℕ}
use lib.Dec.{eqb}
use Rattle.laws.proofs.Chains.{position_slice}
use Rattle.input.proofs.Text.{place_is}
use Rattle.input.proofs.lines.find.Goals as goal

pub returns-clause-found : goal.returns-clause-found
returns-clause-found c =
    place_is (λ (x : ℕ). eqb x c.args.c) c.args.text.now _ (position_slice _ _ c.position.ensures.ran (cc) (λ x b q k. search (rules, tests)))
