-- The flags of the edges so far.
use Rattle.drm_cellmap.specs.Snapshot.{AreFlags, IsEdgeMet}
use Rattle.drm_cellmap.proofs.snap.barred_edges.Given as goal

abbrev pub invariant-loop-i : goal.invariant-loop-i
invariant-loop-i l = AreFlags l.i (IsEdgeMet l.map l.counts l.nodes) l.flags.items
