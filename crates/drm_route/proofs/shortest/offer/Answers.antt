-- A barred edge gives nothing; else the lesser node steps to v, or the greater one, or neither.
use Rattle.drm_grid.specs.CellSet.{Has}
use Rattle.drm_cellmap.specs.Elements.{HasEnds}
use Rattle.drm_route.proofs.TraceLemmas.{barred_offers, lesser_offers, greater_offers, none_offers}
use Rattle.drm_route.proofs.shortest.offer.Goals as goal

pub returns-then-edge_barred : goal.returns-then-edge_barred
returns-then-edge_barred c = barred_offers c.args.road.now c.args.snap.now c.args.labels.now c.args.i c.args.v (c.edge_barred.ensures.0 c.if-edge_barred.true)

pub returns-then-steps : goal.returns-then-steps
returns-then-steps c =
    let place = c.edge.ensures.place in
    let view = c.a.view_is in
    let there : HasEnds c.args.road.now c.args.i c.a.inside.a c.a.inside.b = cc in
    let clear : Has c.args.snap.now.edges c.args.i → ⊥ = λ h. let is = c.edge_barred.ensures.1 h in let no = c.if-edge_barred.false in absurd cc in
    lesser_offers c.args.road.now c.args.snap.now c.args.labels.now c.args.i c.args.v c.a.inside.a c.a.inside.b c.weight-weight.result c.edge.ensures.limits there (c.weight-weight.ensures c.a.inside.a c.a.inside.b there) clear (c.steps.ensures.0 c.if-steps.true)

pub returns-then-steps-2 : goal.returns-then-steps-2
returns-then-steps-2 c =
    let place = c.edge.ensures.place in
    let view = c.a.view_is in
    let there : HasEnds c.args.road.now c.args.i c.a.inside.a c.a.inside.b = cc in
    let clear : Has c.args.snap.now.edges c.args.i → ⊥ = λ h. let is = c.edge_barred.ensures.1 h in let no = c.if-edge_barred.false in absurd cc in
    greater_offers c.args.road.now c.args.snap.now c.args.labels.now c.args.i c.args.v c.a.inside.a c.a.inside.b c.weight-weight.result there (c.weight-weight.ensures c.a.inside.a c.a.inside.b there) clear
    (λ h. let is = c.steps.ensures.1 h in let no = c.if-steps.false in absurd cc) (c.steps-2.ensures.0 c.if-steps-2.true)

pub returns : goal.returns
returns c =
    let place = c.edge.ensures.place in
    let view = c.a.view_is in
    let there : HasEnds c.args.road.now c.args.i c.a.inside.a c.a.inside.b = cc in
    none_offers c.args.road.now c.args.snap.now c.args.labels.now c.args.i c.args.v c.a.inside.a c.a.inside.b c.weight-weight.result there (c.weight-weight.ensures c.a.inside.a c.a.inside.b there)
    (λ h. let is = c.steps.ensures.1 h in let no = c.if-steps.false in absurd cc) (λ h. let is = c.steps-2.ensures.1 h in let no = c.if-steps-2.false in absurd cc)
