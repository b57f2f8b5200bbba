-- What is sent of the chunk fits the room at any limit, and makes up the fragment's reply.
use mathlib.Core.Path.{ap}
use native.Mathlib.Omega.{arith}
use Rattle.cip.specs.Statuses.{has_word}
use Rattle.reads.proofs.Reading.{sent-length, chunk_fits, chunk_used, chunk_sent}
use Rattle.reads.proofs.Head.send_chunk.Goals as goal

pub slice_bounds-bytes-end : goal.slice_bounds-bytes-end
slice_bounds-bytes-end c = sent-length c.args.self.now.ty _ _ _ _ _ c.header_size.ensures c.space_of-s.ensures c.size_of.ensures

pub put-used-requires : goal.put-used-requires
put-used-requires c = (
  ap has_word c.status_of.ensures,
  omega arith,
  chunk_fits c.args.self.now.ty _ _ _ _ _ c.header_size.ensures c.space_of-s.ensures c.size_of.ensures _ c.requires,
)

pub finish-requires : goal.finish-requires
finish-requires c = (
  chunk_used _ _ _ _ _ _ c.header_size.ensures c.space_of-s.ensures c.size_of.ensures _ _ _ c.status_of.ensures _ _ _ c.put-used.ensures,
  omega (arith, c.put-used.auto),
)

pub returns : goal.returns
returns c =
    chunk_sent _ _ _ _ _ _ c.header_size.ensures c.space_of-s.ensures c.size_of.ensures _ _ _ c.status_of.ensures _ _ _ _ _ c.requires
    c.put-used.ensures c.finish.ensures.0 c.finish.ensures.1
