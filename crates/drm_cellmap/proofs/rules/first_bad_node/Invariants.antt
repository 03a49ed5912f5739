-- The nodes so far are configurations.
use Rattle.std.proofs.Common.{ℕ, ◌≡◌, ◌<◌, true}
use Rattle.drm_road.specs.Road.{node_of}
use Rattle.drm_cellmap.specs.MapFaults.{is_config}
use Rattle.drm_cellmap.proofs.rules.first_bad_node.Given as goal

abbrev pub invariant-loop-i : goal.invariant-loop-i
invariant-loop-i l = (k : ℕ) → k < l.i → is_config l.arm (node_of l.road k) ≡ true
