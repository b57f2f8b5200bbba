-- The chain answers as the library's law of it says: the word ends at the first blank.
use Rattle.std.proofs.Common.{rules, tests}
use mathlib.Core.Path.{ap, ◌∙◌}
use Prim.Native.Nat.{ℕ}
use lib.ListN.{take, drop}
use Rattle.laws.proofs.Chains.{position_slice}
use Rattle.input.specs.Lines.{is_blank}
use Rattle.input.proofs.Text.{place_is, place_or_end, take-stretch}
use Rattle.input.proofs.hex.split_word.Goals as goal

pub returns : goal.returns
returns c =
    let text = c.args.text.now in
    let place = position_slice is_blank text c.position-end.ensures.ran (cc) (λ x b q k. search (rules, tests)) in
    let end = c.unwrap_or.ensures ∙ place_or_end is_blank text _ (place_is is_blank text _ place) in (
      c.split_at.ensures.front ∙ ap (λ (k : ℕ). take k text) end ∙ take-stretch is_blank text,
      c.split_at.ensures.back ∙ ap (λ (k : ℕ). drop k text) end,
    )
