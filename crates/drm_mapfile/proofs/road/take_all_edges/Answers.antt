-- One more edge, or the fault of one.
use Rattle.std.proofs.Common.{◌∙◌, sym, ap}
use Rattle.std.proofs.lemmas.Result.{err_from_is_err_and}
use Rattle.drm_mapfile.specs.Reading.{edge_at, last_edge}
use Rattle.drm_mapfile.proofs.Loops.{goes_on, ends, is_done}
use Rattle.drm_mapfile.proofs.RoadLoops.{last_push}
use Rattle.drm_mapfile.proofs.road.take_all_edges.Goals as goal

pub returns-in_err-a : goal.returns-in_err-a
returns-in_err-a c =
    let p = err_from_is_err_and c.from_residual.result c.from_residual.ensures.1 in
    let here = rw c.loop.invariant.last at c.in_err-a.ensures in
    rw (p.1, p.2) (ends (λ front. edge_at c.args.total c.args.nodes (last_edge front)) c.in_err-a.field-0.0 c.args.count c.loop.counter c.loop.edges.items c.loop.rest.now _ c.loop-test.true here c.loop.invariant.so_far)

pub loop-preserved : goal.loop-preserved
loop-preserved c =
    let here = rw c.loop.invariant.last at c.in_ok-a.ensures in
    record {
      so_far = goes_on (λ front. edge_at c.args.total c.args.nodes (last_edge front)) c.args.count c.loop.counter c.loop.edges.items c.push.new.self.items c.loop.rest.now c.in_ok-a.after.now (c.in_ok-a.a, c.in_ok-a.b) _ c.loop-test.true here c.in_ok-push.ensures.items c.loop.invariant.so_far;
      last = sym (ap last_edge c.in_ok-push.ensures.items ∙ last_push c.loop.edges.items (c.in_ok-a.a, c.in_ok-a.b));
    }

pub returns : goal.returns
returns c = is_done (λ front. edge_at c.args.total c.args.nodes (last_edge front)) c.args.count c.loop.counter c.loop.edges.items c.loop.rest.now _ c.loop-test.false c.loop.invariant.so_far
