-- From each bound on the entries that still fit end before the same ID and leave the same due.
use Rattle.std.proofs.Common.{◌-◌, ◌≤◌}
use Rattle.laws.specs.Put.{KeptFrom}
use Rattle.model.specs.Tables.{tables_of, WhereValid}
use Rattle.listing.specs.Entries.{page_lent}
use Rattle.listing.specs.Numbers.{numbers_in}
use Rattle.whole.specs.Lists.{behind}
use Rattle.whole.specs.Turns.{due_on, front, next_id}
use Rattle.whole.proofs.Walking.{Passes}
use Rattle.whole.proofs.walks.next_bound.Given as goal

abbrev pub invariant-loop-next : goal.invariant-loop-next
invariant-loop-next l =
    (4 ≤ l.walk.used) × (l.walk.used ≤ l.size) × KeptFrom l.size l.initial.buf l.buf
    × WhereValid (page_lent (tables_of l.t))
    (λ t. Passes t l.page.start.scope (numbers_in l.page.numbers) (l.size - l.walk.used) l.walk.bound
    (next_id l.page.start.id (front l.size (due_on t l.page))) (behind l.size (due_on t l.page)))

abbrev pub decreases-loop-next : goal.decreases-loop-next
decreases-loop-next l = l.size - l.walk.used
