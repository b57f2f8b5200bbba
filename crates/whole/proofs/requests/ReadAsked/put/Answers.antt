-- Each piece is put right behind the one before it, so that all of them are the request; a sendable path's words fit one byte.
use Rattle.std.proofs.Common.{arith, refl}
use Rattle.whole.specs.Short.{request_length}
use Rattle.whole.proofs.Sending.{request-put, read_keeps}
use Rattle.whole.proofs.requests.ReadAsked.put.Goals as goal

pub returns-clause-written : goal.returns-clause-written
returns-clause-written c =
    let long = request_length c.args.self.now.path.now c.args.self.now.elements c.args.offset in
    request-put _ _ _ _ _ _ _ _ _ _ (omega (arith, long, c.requires.1)) refl c.put_u8.ensures c.put_u8-2.ensures c.copy_into.ensures
    c.put_u16.ensures c.put_u32.ensures

pub returns-clause-changes_nothing : goal.returns-clause-changes_nothing
returns-clause-changes_nothing c = λ t f m limit. read_keeps t f m limit _ _ _
