-- A reply lies in the buffer that it was made in.
use Rattle.std.proofs.Common.{ℕ, ◌≤◌, List, length, arith}
use Rattle.definition.specs.Tables.{Tables, Flags}
use Rattle.definition.specs.Answer.{answer}
use Rattle.definition.proofs.Replies.{proper_answer}
use Rattle.services.specs.Answers.{Answers}

pub reply_fits : (t : Tables) (f : Flags) (memory request : List ℕ) {limit r : ℕ} {old new left : List ℕ}
    → Answers limit (answer t f memory request limit) old r new left → limit ≤ 65535 → 65535 ≤ length old → r ≤ length old
reply_fits t f memory request {limit} a l b = omega (arith, a.length_is, l, b, (proper_answer t f memory request limit).fits)
