-- Names of different lengths differ; two of one length are the same just where both their halves are.
use lib.ListN.{length}
use Prim.Native.Nat.{◌/◌}
use mathlib.Core.Path.{◌∙◌}
use Rattle.std.proofs.lemmas.List.{take_rest}
use Rattle.laws.proofs.Zip.{agrees, agree_first, agree-second}
use Rattle.definition.specs.Names.{same_byte}
use Rattle.path.proofs.same_name.Goals as goal

pub returns-then-a-b : goal.returns-then-a-b
returns-then-a-b c = search agrees

pub returns-then-agree : goal.returns-then-agree
returns-then-agree c =
    let m = length c.args.a.now / 2 in
    agree_first same_byte m c.args.a.now _ c.args.b.now _ (take_rest c.args.a.now m) (take_rest c.args.b.now m) _
    c.agree.ensures _ c.if-agree.true c.agree-then-agree.ensures

pub returns-else-agree : goal.returns-else-agree
returns-else-agree c =
    let m = length c.args.a.now / 2 in
    let e = agree-second same_byte m c.args.a.now _ c.args.b.now _ (take_rest c.args.a.now m) (take_rest c.args.b.now m) _ c.agree.ensures c.if-agree.false in
    c.if-agree.false ∙ e
