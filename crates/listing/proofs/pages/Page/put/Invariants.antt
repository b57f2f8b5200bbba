use Rattle.std.proofs.Common.{◌-◌, ◌≤◌}
use Rattle.model.specs.Tables.{tables_of, WhereValid}
use Rattle.listing.specs.Numbers.{numbers_in}
use Rattle.listing.specs.Entries.{page_lent}
use Rattle.listing.proofs.Filled.{Filled}
use Rattle.listing.proofs.pages.Page.put.Given as goal

abbrev pub invariant-loop-next : goal.invariant-loop-next
invariant-loop-next l =
    (4 ≤ l.walk.used) × (l.walk.used ≤ l.end) × WhereValid (page_lent (tables_of l.t))
    (λ t. Filled t l.self.start.scope (numbers_in l.self.numbers) l.self.start.id l.service l.limit l.end l.initial.buf l.walk.used l.walk.bound l.buf)

abbrev pub decreases-loop-next : goal.decreases-loop-next
decreases-loop-next l = l.end - l.walk.used
