-- What is joined and what is left make up all entries, and what is left ends with the same page; a start ID has 32 bits.
use Rattle.std.proofs.Common.{◌≡◌, ◌-◌, ◌<◌, length}
use Rattle.laws.specs.Put.{KeptFrom}
use Rattle.definition.specs.Reply.{room}
use Rattle.definition.specs.Symbols.{due}
use Rattle.model.specs.Tables.{tables_of}
use Rattle.listing.specs.Numbers.{numbers_in}
use Rattle.whole.specs.Turns.{due_on}
use Rattle.whole.proofs.Paging.{Joins}
use Rattle.whole.proofs.pages.join_pages.Given as goal

abbrev pub invariant-loop-end : goal.invariant-loop-end
invariant-loop-end l =
    let t = tables_of l.c.tables in
    (l.memory ≡ l.initial.memory) × KeptFrom (room l.limit) l.initial.buf l.buf × (length l.out ≡ length l.initial.out)
    × Joins (due_on t l.first) (due t l.first.start.scope (numbers_in l.first.numbers) l.id) l.limit l.got l.initial.out l.out
    × (l.id < 4294967296)

abbrev pub decreases-loop-end : goal.decreases-loop-end
decreases-loop-end l = length l.initial.out - l.got
