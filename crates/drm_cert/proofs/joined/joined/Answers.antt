-- The edge between the lesser node and the greater one, if there is one.
use Rattle.std.proofs.Common.{refl, arith}
use Rattle.std.proofs.lemmas.Option.{slice_get_within}
use Rattle.drm_cert.proofs.joined.joined.Goals as goal

pub edge_barred-requires : goal.edge_barred-requires
edge_barred-requires c =
    let there = (c.in_ok-edge.ensures.exact c.in_ok-edge.edge).1 refl in
    omega (arith, slice_get_within c.args.road.now.edges c.in_ok-edge.edge (c.min.result, c.max.result) there, c.requires.edges)

pub weight-requires : goal.weight-requires
weight-requires c =
    let there = (c.in_ok-edge.ensures.exact c.in_ok-edge.edge).1 refl in
    slice_get_within c.args.road.now.edges c.in_ok-edge.edge (c.min.result, c.max.result) there
