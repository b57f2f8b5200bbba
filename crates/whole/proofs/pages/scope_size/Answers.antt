-- A segment is the name with two bytes before it and a pad behind an odd one; without a name there is none.
use Rattle.std.proofs.Common.{rules}
use Rattle.whole.proofs.Asking.{size_none, size_named}
use Rattle.whole.proofs.pages.scope_size.Goals as goal

pub returns-then-is_empty : goal.returns-then-is_empty
returns-then-is_empty c = size_none _ (search rules)

pub returns : goal.returns
returns c = size_named _ c.requires (search rules)
