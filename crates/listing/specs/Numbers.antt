-- The numbers of a list, as the definition has them.
use Rattle.std.specs.Prelude.{ℕ, List, map, Option, None, Some}
use Rattle.definition.specs.Bytes.{u16_at}
use Rattle.listing.specs.declared.numbers.Numbers.{Numbers}

-- two bytes as a number
abbrev pub word : List ℕ → ℕ
word pair = u16_at pair 0

abbrev pub numbers_in : Numbers → List ℕ
numbers_in numbers = map word numbers.pairs.now

abbrev pub list_of : Option Numbers → Option (List ℕ)
list_of None = None
list_of (Some numbers) = Some (numbers_in numbers)
