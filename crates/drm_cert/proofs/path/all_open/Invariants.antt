-- The nodes so far are not barred.
use Rattle.std.proofs.Common.{ℕ, ◌<◌, get_or}
use Rattle.drm_cellmap.specs.Routes.{IsOpen}
use Rattle.drm_cert.proofs.path.all_open.Given as goal

abbrev pub invariant-loop-node : goal.invariant-loop-node
invariant-loop-node l = (k d : ℕ) → k < l.node-index → IsOpen l.road l.snap (get_or l.nodes k d)
