-- `all` asks `same_byte` of each pair of bytes, so its answer is the definition's (`Agreeing.antt`).
use Rattle.std.proofs.Common.{rules, tests, ◌≡◌, true, false, ℕ}
use Rattle.std.proofs.lemmas.Iterator.{YieldsList-from_slice, YieldsList-from_zip, cases_from_all}
use Rattle.definition.specs.Names.{same_byte}
use Rattle.path.proofs.Agreeing.{agree_by}
use Rattle.path.proofs.agree.Goals as goal

pub returns : goal.returns
returns c =
    agree_by same_byte _ _ _ c.requires
    (cases_from_all c.all.new.self _ _ (λ (q : ℕ × ℕ). same_byte q.0 q.1 ≡ true) (λ (q : ℕ × ℕ). same_byte q.0 q.1 ≡ false) c.all.ensures.ran
    (YieldsList-from_zip (YieldsList-from_slice c.args.a.now cc) (YieldsList-from_slice c.args.b.now cc)) (λ x q k. search (rules, tests))
    (λ x q k. search (rules, tests)))
