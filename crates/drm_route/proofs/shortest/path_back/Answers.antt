-- Each step back is to the least node and a lesser label, and where there is none the route begins.
use Rattle.std.proofs.Common.{◌≡◌, ℕ, List, sym, subst, reverse}
use Rattle.drm_route.specs.Trace.{IsTraced}
use Rattle.drm_route.proofs.TraceLemmas.{is_step_back, ends_at_first, step_falls, trace_push}
use Rattle.drm_route.proofs.WeightLemmas.{road_on}
use Rattle.drm_route.proofs.shortest.path_back.Goals as goal

pub loop-before-preserved : goal.loop-before-preserved
loop-before-preserved c =
    let back = is_step_back c.args.road.now c.args.snap.now c.args.labels.now c.loop-before.at c.in-Some.before c.in-Some.ensures in
    (trace_push c.args.road.now c.args.snap.now c.args.labels.now c.in-Some.before c.loop-before.at c.args.to c.loop-before.nodes.items c.push-in-Some.new.self.items c.in_ok-push-2.ensures.items back c.loop-before.invariant.0, (back.steps.b, back.steps.near))

pub loop-before-smaller : goal.loop-before-smaller
loop-before-smaller c =
    let back = is_step_back c.args.road.now c.args.snap.now c.args.labels.now c.loop-before.at c.in-Some.before c.in-Some.ensures in
    step_falls c.args.road.now c.args.snap.now c.args.labels.now c.in-Some.before c.loop-before.at (road_on c.args.road.now c.args.snap.now c.requires.snapshot) back.steps

pub returns : goal.returns
returns c =
    let label = c.loop-before.invariant.1 in
    let first : c.loop-before.at ≡ c.args.from = ends_at_first c.args.road.now c.args.snap.now c.args.labels.now c.args.from c.loop-before.at label.0 c.requires.grounds c.requires.agrees label.1 c.in_default.ensures in
    let turned = reverse c.loop-before.nodes.items in
    let traced : IsTraced c.args.road.now c.args.snap.now c.args.labels.now c.args.from c.args.to turned = subst (λ (n : ℕ). IsTraced c.args.road.now c.args.snap.now c.args.labels.now n c.args.to turned) first c.loop-before.invariant.0 in
    subst (λ (nodes : List ℕ). IsTraced c.args.road.now c.args.snap.now c.args.labels.now c.args.from c.args.to nodes) (sym c.reverse.ensures.items) traced
