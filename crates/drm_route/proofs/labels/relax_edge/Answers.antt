-- One direction, and then the other.
use Rattle.std.proofs.Common.{true, arith}
use Rattle.drm_route.proofs.RoundLemmas.{at_ends, first_lowers, second_tells}
use Rattle.drm_route.proofs.labels.relax_edge.Goals as goal

pub lower-requires-clause-weight : goal.lower-requires-clause-weight
lower-requires-clause-weight c =
    let e = c.edge.result in
    omega (arith, c.weight-weight.ensures e.0 e.1 c.edge.ensures.place, c.requires.ready.weights c.args.i e.0 e.1 c.edge.ensures.place)

pub lower-requires-2-clause-weight : goal.lower-requires-2-clause-weight
lower-requires-2-clause-weight c =
    let e = c.edge.result in
    omega (arith, c.weight-weight.ensures e.0 e.1 c.edge.ensures.place, c.requires.ready.weights c.args.i e.0 e.1 c.edge.ensures.place)

pub returns-then-lower : goal.returns-then-lower
returns-then-lower c =
    let e = c.edge.result in
    at_ends c.args.road.now c.args.labels.now c.lower.new.labels c.args.i c.a.inside.a c.a.inside.b c.weight-weight.result e true c.edge.ensures.place c.a.view_is (c.weight-weight.ensures e.0 e.1 c.edge.ensures.place)
    (first_lowers c.args.labels.now c.lower.new.labels c.a.inside.a c.a.inside.b c.weight-weight.result c.lower.result c.if-lower.true c.lower.ensures)

pub returns : goal.returns
returns c =
    let e = c.edge.result in
    at_ends c.args.road.now c.args.labels.now c.lower-2.new.labels c.args.i c.a.inside.a c.a.inside.b c.weight-weight.result e c.lower-2.result c.edge.ensures.place c.a.view_is (c.weight-weight.ensures e.0 e.1 c.edge.ensures.place)
    (second_tells c.args.labels.now c.lower.new.labels c.lower-2.new.labels c.a.inside.a c.a.inside.b c.weight-weight.result c.lower.result c.lower-2.result c.if-lower.false c.lower.ensures c.lower-2.ensures)
