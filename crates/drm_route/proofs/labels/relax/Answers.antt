-- One edge more, over which a label was lowered or not.
use Rattle.std.proofs.Common.{◌<◌, arith}
use Rattle.drm_cellmap.specs.Elements.{edge_count}
use Rattle.drm_route.proofs.RoundLemmas.{round_lowers, round_keeps}
use Rattle.drm_route.proofs.labels.relax.Goals as goal
use Rattle.drm_route.proofs.labels.relax.Goals.{then-relax_at, else-relax_at}

pub loop-i-preserved : goal.loop-i-preserved
loop-i-preserved c =
    let below : c.loop-i.i < edge_count c.args.road.now = omega (arith, c.loop-i-test.true, c.edges-i-end.ensures.count) in
    elim c.if-relax_at.branch [
      | then-relax_at w ↦ rw w.changed-is (round_lowers c.args.road.now c.args.snap.now c.args.labels.now c.loop-i.labels c.relax_at.new.labels c.loop-i.i c.loop-i.changed c.relax_at.result c.edges-i-end.ensures.limits c.requires.ready.weights c.requires.ready.one_each below c.loop-i.invariant w.if-relax_at.true c.relax_at.ensures)
      | else-relax_at w ↦ rw w.changed-is (round_keeps c.args.road.now c.args.snap.now c.args.labels.now c.loop-i.labels c.relax_at.new.labels c.loop-i.i c.loop-i.changed c.relax_at.result c.loop-i.invariant w.if-relax_at.false c.relax_at.ensures)
    ]
