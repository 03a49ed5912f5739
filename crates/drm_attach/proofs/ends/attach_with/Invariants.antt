-- The candidates so far were refused, and the lent set keeps its size.
use Rattle.std.proofs.Common.{◌≡◌, length}
use Rattle.drm_attach.proofs.AttachedLemmas.{Tries}
use Rattle.drm_attach.proofs.ends.attach_with.Given as goal

abbrev pub invariant-loop-node : goal.invariant-loop-node
invariant-loop-node l = Tries l.map l.snap l.at l.way l.node-items l.node-index l.tried.items × (length l.left ≡ length l.initial.left)
