-- Each piece is put right behind the one before it, so that all of them are the request; an askable one fits the message.
use Rattle.std.proofs.Common.{Fits, w32, rules, arith, refl}
use Rattle.whole.specs.Short.{askable-short, list_length}
use Rattle.whole.proofs.Asking.{list_put, list_keeps}
use Rattle.whole.proofs.pages.ListingAsked.put.Goals as goal

pub returns-clause-written : goal.returns-clause-written
returns-clause-written c =
    let long = list_length c.args.self.now.program.now c.args.self.now.attributes.now c.args.id in
    list_put c.args.self.now.program.now c.args.self.now.attributes.now _ _ _ _ _ _ _ _ _ _ c.scope_size-n.ensures.0
    (omega (arith, long, c.scope_size-n.ensures.0, c.requires.1)) refl c.put_u8.ensures c.put_u8-2.ensures c.put_scope.ensures c.copy_into.ensures
    c.put_u32.ensures c.copy_into-2.ensures

pub returns-clause-changes_nothing : goal.returns-clause-changes_nothing
returns-clause-changes_nothing c =
    let small : Fits w32 c.args.id = search rules in
    let short = (askable-short c.args.self.now.program.now c.args.self.now.attributes.now c.requires.0).0 in
    λ t f m limit. list_keeps t f m _ _ _ limit short small.fits
