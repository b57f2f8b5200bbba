-- The chain answers as the library's law of it says: behind the blanks the text goes on.
use Rattle.std.proofs.Common.{rules, tests}
use mathlib.Core.Path.{ap, ◌∙◌}
use mathlib.Core.Bool.{not}
use Prim.Native.Nat.{ℕ}
use lib.ListN.{drop}
use Rattle.std.proofs.lemmas.List.{take_rest}
use Rattle.laws.proofs.Chains.{position_slice}
use Rattle.input.specs.Lines.{is_blank}
use Rattle.input.proofs.Text.{place_is, place_or_end}
use Rattle.input.proofs.Parsing.{blanks_end}
use Rattle.input.proofs.hex.after_blanks.Goals as goal

pub returns : goal.returns
returns c =
    let text = c.args.text.now in
    let stops = λ (x : ℕ). not (is_blank x) in
    let place = position_slice stops text c.position-blanks.ensures.ran (cc) (λ x b q k. search (rules, tests)) in
    let end = c.unwrap_or.ensures ∙ place_or_end stops text _ (place_is stops text _ place) in
    take_rest text _ ∙ ap (λ (k : ℕ). drop k text) end ∙ blanks_end text
