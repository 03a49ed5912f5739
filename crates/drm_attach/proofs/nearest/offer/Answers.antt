-- The node is put to its place, or comes behind 12 others.
use Rattle.std.proofs.Common.{◌≡◌, arith}
use Rattle.drm_attach.specs.Candidates.{gap}
use Rattle.drm_attach.proofs.CandidateLemmas.{by_distance, stands, passed, offered}
use Rattle.drm_attach.proofs.nearest.offer.Goals as goal

pub rank-place-requires-clause-sorted : goal.rank-place-requires-clause-sorted
rank-place-requires-clause-sorted c = rw c.as_slice.ensures.value (by_distance c.args.road.now c.args.at.now c.args.nodes.now.items c.requires.first.in_order)

pub returns-then-place : goal.returns-then-place
returns-then-place c =
    let far : c.length-far.result ≡ gap c.args.road.now c.args.at.now c.args.node = rw c.node.ensures.exact at c.length-far.ensures in
    let place = stands c.args.road.now c.args.at.now c.args.node c.args.nodes.now.items c.rank-place.result c.as_slice.result.now c.length-far.result c.as_slice.ensures.value far c.rank-place.ensures.within c.rank-place.ensures.near c.rank-place.ensures.further in
    rw (c.insert.ensures.items, c.truncate.ensures.items)
    (offered c.args.road.now c.args.at.now c.args.node c.args.nodes.now.items c.rank-place.result c.requires.first place (omega (arith, c.if-place.true)))

pub returns-else-place : goal.returns-else-place
returns-else-place c =
    let far : c.length-far.result ≡ gap c.args.road.now c.args.at.now c.args.node = rw c.node.ensures.exact at c.length-far.ensures in
    let place = stands c.args.road.now c.args.at.now c.args.node c.args.nodes.now.items c.rank-place.result c.as_slice.result.now c.length-far.result c.as_slice.ensures.value far c.rank-place.ensures.within c.rank-place.ensures.near c.rank-place.ensures.further in
    passed c.args.road.now c.args.at.now c.args.node c.args.nodes.now.items c.rank-place.result c.requires.first place (omega (arith, c.if-place.false))
