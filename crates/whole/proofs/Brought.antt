-- What stands behind a reply's first bytes, as it lies in the reply buffer and is joined.
-- Assumes nothing.
use mathlib.Core.Path.{◌≡◌, ap, ◌∙◌}
use mathlib.Core.Bool.{true, false}
use mathlib.Core.List.{List}
use Rattle.std.specs.Prelude.{Bool}
use Prim.Native.Nat.{ℕ, ◌+◌, ◌-◌, ◌≤◌}
use native.Mathlib.Omega.{arith}
use lib.Dec.{eqb}
use lib.ListN.{length, take, drop, get_or}
use Rattle.laws.specs.Put.{put}
use Rattle.laws.proofs.Parts.{laid-byte, laid_rest}
use Rattle.definition.specs.Reply.{Answer, room}
use Rattle.definition.specs.Tables.{Tables}
use Rattle.definition.proofs.Replies.{Proper}
use Rattle.services.specs.Answers.{Answers}
use Rattle.whole.specs.declared.asked.Turn.TheVariants.{Last, More}
use Rattle.whole.specs.Asked.{Taken, Joined}

module _ {x : Answer} {limit n first : ℕ} {old new left : List ℕ} (p : Proper limit x.reply) (a : Answers limit x old n new left)
    (holds : first ≤ length x.reply) where
  brought : take (n - first) (drop first new) ≡ drop first x.reply
  brought = laid_rest (room limit) old x.reply new a.buffer_is first n a.length_is (omega (arith, a.length_is))

  module _ (got : ℕ) (out filled : List ℕ) (success : Bool) (joins : filled ≡ put out got (take (n - first) (drop first new)))
      (is : success ≡ eqb (get_or new 2 0) 0) where
    status : success ≡ eqb (get_or x.reply 2 0) 0
    status = is ∙ ap (λ (b : ℕ). eqb b 0) (laid-byte (room limit) old x.reply new a.buffer_is 2 (omega (arith, p.headed.long)))

    pub joined_last : success ≡ true → Joined x.reply first got out (Last (got + (n - first))) filled
    joined_last e = record {
      turn_is = rw (← status, e) (ap (λ (k : ℕ). Last (got + (k - first))) a.length_is);
      out_is = joins ∙ ap (put out got) brought;
    }

    pub joined_more : success ≡ false → Joined x.reply first got out (More (got + (n - first))) filled
    joined_more e = record {
      turn_is = rw (← status, e) (ap (λ (k : ℕ). More (got + (k - first))) a.length_is);
      out_is = joins ∙ ap (put out got) brought;
    }

-- a turn begins with the memory as it was and a reply buffer as long as it was
pub turn_taken : {can_send : Bool} {t : Tables} {m : List ℕ} {limit buffer : ℕ} (memory : List ℕ) (b : ℕ)
    → Taken can_send t m limit buffer → memory ≡ m → b ≡ buffer → Taken can_send t memory limit b
turn_taken memory b a same e = rw (same, e) a
