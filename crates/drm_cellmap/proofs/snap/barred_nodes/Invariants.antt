-- The flags of the nodes so far.
use Rattle.std.proofs.Common.{◌<◌, slice_index}
use Rattle.drm_cellmap.specs.Snapshot.{AreFlags}
use Rattle.drm_cellmap.proofs.snap.barred_nodes.Given as goal

abbrev pub invariant-loop-i : goal.invariant-loop-i
invariant-loop-i l = AreFlags l.i (λ i. 0 < slice_index l.counts i) l.flags.items
