-- What the counts say is barred is what the occupied cells bar.
use Rattle.std.proofs.Common.{subst, List, Bool}
use Rattle.drm_road.specs.Elements.{edge_count}
use Rattle.drm_cellmap.specs.Snapshot.{AreFlags, IsEdgeMet}
use Rattle.drm_cellmap.proofs.BarredLemmas.{snap_by_counts}
use Rattle.drm_cellmap.proofs.snap.Snap.of.Goals as goal

pub returns-clause-barred : goal.returns-clause-barred
returns-clause-barred c =
    let map = c.args.map.now in
    let counts = c.args.counts.now in
    let edges = subst (λ (nodes : List Bool). AreFlags (edge_count map.road) (IsEdgeMet map counts nodes) c.in_ok-edges.edges.items) c.deref.ensures.value c.in_ok-edges.ensures in
    snap_by_counts map _ counts c.barred_nodes.ensures.limits c.requires.cells c.requires.counts c.in_ok-nodes.ensures.flags edges
