-- The tests are those of the definition; a store is a put of one byte.
use Rattle.laws.proofs.Put.{set-put}
use Rattle.laws.proofs.Chain.{chain}
use borrow.Author.Rules.{rules}
use Rattle.input.proofs.lines.ended.Goals as goal

pub returns : goal.returns
returns c =
    let stored = set-put c.args.input.now c.args.at 10 (search rules) in
    (search (rules, chain), search (rules, chain))
