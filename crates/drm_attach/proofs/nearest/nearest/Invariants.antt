-- The nodes that come first among those that were looked at.
use Rattle.drm_attach.specs.Candidates.{AreFirst}
use Rattle.drm_attach.proofs.nearest.nearest.Given as goal

abbrev pub invariant-loop-node : goal.invariant-loop-node
invariant-loop-node l = AreFirst l.road l.at l.node l.nodes.items
