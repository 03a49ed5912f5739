-- The first element that does not pass.
use Rattle.drm_mapfile.proofs.JudgingLemmas.{at_place, first_at_fault}
use Rattle.drm_mapfile.proofs.judging.check.Goals as goal

pub returns-in_default : goal.returns-in_default
returns-in_default c =
    let at = at_place c.args.map.now c.loop-place.place c.element.result c.nodes.result c.edges.result c.road-road.result.now c.road-road.ensures.exact c.nodes.ensures.count c.edges.ensures.count c.element.ensures.exact c.loop-place-test.true in
    first_at_fault c.args.map.now c.loop-place.place c.element.result c.in_ok-verdict.verdict at c.loop-place.invariant c.in_ok-verdict.ensures c.in_default.not-Passed
