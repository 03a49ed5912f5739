-- The two nodes are the ends of the edge, the lesser one first.
use Rattle.std.proofs.Common.{◌+◌, ◌<◌, length, get_or, arith}
use Rattle.std.proofs.lemmas.Option.{slice_get-get_or}
use Rattle.drm_plan.proofs.LegLemmas.{leg_ends}
use Rattle.drm_plan.proofs.legs.leg.Goals as goal

pub returns : goal.returns
returns c = λ snap edge leg.
    let nodes = c.args.nodes.now in
    let k = c.args.k in
    let next = c.requires.next in
    let inside : k < length nodes = omega arith in
    let first = slice_get-get_or nodes k 0 inside in
    let second = slice_get-get_or nodes (k + 1) 0 next in
    let ends = leg_ends c.args.road.now snap nodes k edge (get_or nodes k 0) (get_or nodes (k + 1) 0) c.requires.limits leg first second in
    c.edge_between.ensures edge (rw (c.min.ensures, c.max.ensures) ends)
