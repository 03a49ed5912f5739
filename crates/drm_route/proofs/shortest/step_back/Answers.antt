-- One edge more, and all edges.
use Rattle.std.proofs.Common.{◌≡◌, ℕ, subst, arith}
use Rattle.drm_cellmap.specs.Elements.{edge_count}
use Rattle.drm_route.specs.Trace.{IsLeastStep}
use Rattle.drm_route.proofs.TraceLemmas.{least_more}
use Rattle.drm_route.proofs.shortest.step_back.Goals as goal

pub loop-i-preserved : goal.loop-i-preserved
loop-i-preserved c = least_more c.args.road.now c.args.snap.now c.args.labels.now c.args.v c.loop-i.i c.loop-i.least c.offer.result c.lesser-least.result c.loop-i.invariant c.offer.ensures c.lesser-least.ensures

pub returns : goal.returns
returns c =
    let done : c.loop-i.i ≡ edge_count c.args.road.now = let end = c.loop-i.auto.i-end in let test = c.loop-i-test.false in omega (arith, c.edges-i-end.ensures.count) in
    subst (λ (n : ℕ). IsLeastStep c.args.road.now c.args.snap.now c.args.labels.now c.args.v n c.loop-i.least) done c.loop-i.invariant
