use Rattle.std.proofs.Common.{◌≡◌, ℕ, ◌<◌, true}
use Rattle.drm_road.specs.RoadFaults.{keeps_edges}
use Rattle.drm_road.proofs.road.first_bad_edge.Given as goal

abbrev pub invariant-loop-i : goal.invariant-loop-i
invariant-loop-i l = (k : ℕ) → k < l.i → keeps_edges l.nodes l.edges k ≡ true
