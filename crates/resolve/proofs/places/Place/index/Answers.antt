-- The definition's tests in its order; indexes below their lengths mean a position inside the array, so nothing overflows.
use Rattle.std.proofs.Common.{rules}
use Rattle.resolve.proofs.Indexes.{position_small, position_counted, position_within, index_refused, index_laws, any_refused, any_laws}
use Rattle.resolve.proofs.places.Place.index.Goals as goal

pub returns-then-dims-eq0 : goal.returns-then-dims-eq0
returns-then-dims-eq0 c = record {
  listed = index_refused _ c.args.self c.args.run _ c.count_lengths-dims.ensures.count c.then-dims-eq0.either;
  any_run = any_refused _ c.args.self c.args.run _ c.count_lengths-dims.ensures.count c.then-dims-eq0.either;
}

pub returns-then-not-is_inside : goal.returns-then-not-is_inside
returns-then-not-is_inside c = record { listed = search (rules, index_laws); any_run = search (rules, any_laws) }

pub position-requires : goal.position-requires
position-requires c = search (rules, position_small)

pub elements_from-requires : goal.elements_from-requires
elements_from-requires c = search (rules, position_counted, position_within)

pub returns : goal.returns
returns c = record { listed = search (rules, index_laws); any_run = search (rules, any_laws) }
