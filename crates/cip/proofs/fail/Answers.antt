-- A header has at most 6 bytes, so it fits the room; with zeros behind what was written it is a reply laid out.
use Rattle.cip.proofs.Laws.{finished, header-short}
use native.Mathlib.Omega.{arith}
use Rattle.cip.specs.Statuses.{status_of}
use Rattle.cip.proofs.fail.Goals as goal

pub finish-requires : goal.finish-requires
finish-requires c = (
  omega (arith, c.put_header-used.ensures.length_is, header-short c.args.service (status_of c.args.s)),
  omega (arith, c.put_header-used.auto),
)

pub returns : goal.returns
returns c =
    finished _ _ _ _ _ _ _ c.put_header-used.ensures c.finish.ensures.0 c.finish.ensures.1
    (omega (arith, header-short c.args.service (status_of c.args.s))) c.requires
