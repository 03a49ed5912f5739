-- One more edge: its flag says whether its count is not 0 or an end is barred.
use Rattle.drm_cellmap.specs.Snapshot.{IsEdgeMet}
use Rattle.drm_cellmap.proofs.FlagLemmas.{flags_push}
use Rattle.drm_cellmap.proofs.snap.barred_edges.Goals as goal

pub loop-i-preserved : goal.loop-i-preserved
loop-i-preserved c =
    rw c.in_ok-push.ensures.items
    (flags_push (IsEdgeMet c.args.map.now c.args.counts.now c.args.nodes.now) c.loop-i.i c.loop-i.flags.items c.edge_met.result c.loop-i.invariant c.edge_met.ensures)
