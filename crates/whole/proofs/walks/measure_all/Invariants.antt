-- Each step starts behind the place of the header; what is passed and what is left make up all entries.
use Rattle.std.proofs.Common.{◌≡◌, ◌-◌}
use Rattle.laws.specs.Put.{KeptFrom}
use Rattle.definition.specs.Symbols.{due}
use Rattle.model.specs.Tables.{tables_of, WhereValid}
use Rattle.listing.specs.Entries.{page_lent}
use Rattle.listing.specs.Numbers.{numbers_in}
use Rattle.whole.specs.Turns.{due_on}
use Rattle.whole.proofs.Walking.{Measuring}
use Rattle.whole.proofs.walks.measure_all.Given as goal

abbrev pub invariant-loop-next : goal.invariant-loop-next
invariant-loop-next l =
    (l.walk.used ≡ 4) × KeptFrom l.limit l.initial.buf l.buf
    × WhereValid (page_lent (tables_of l.t))
    (λ t. Measuring l.limit (due_on t l.page) (due t l.page.start.scope (numbers_in l.page.numbers) l.walk.bound) l.total)

abbrev pub decreases-loop-next : goal.decreases-loop-next
decreases-loop-next l = 71302080 - l.total
