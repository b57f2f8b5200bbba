-- Each word is read at its place.
use Prim.Native.Nat.{ℕ, ◌+◌, ◌*◌}
use mathlib.Core.Path.{◌∙◌}
use Rattle.std.proofs.Common.{rules}
use Rattle.definition.specs.Bytes.{u32_at}
use Rattle.input.proofs.Rows.{from_fn_is, words_are}
use Rattle.input.proofs.image_rows.row_at.Goals as goal

pub returns : goal.returns
returns g c =
    let src = c.args.src.now in
    from_fn_is (λ (k : ℕ). u32_at src (c.args.at + 4 * k)) _ 0 g.row.WIDTH c.from_fn.ensures.items (λ k y q h. search rules)
    ∙ words_are src c.args.at g.row.WIDTH
