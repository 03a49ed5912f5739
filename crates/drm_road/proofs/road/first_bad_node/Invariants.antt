use Rattle.std.proofs.Common.{◌≡◌, ℕ, ◌<◌, true, take}
use Rattle.drm_road.specs.RoadFaults.{keeps_nodes}
use Rattle.drm_road.proofs.SampleLemmas.{HasMet}
use Rattle.drm_road.proofs.road.first_bad_node.Given as goal

abbrev pub invariant-loop-i : goal.invariant-loop-i
invariant-loop-i l = ((k : ℕ) → k < l.i → keeps_nodes l.nodes k ≡ true) × HasMet l.met l.joints (take l.i l.nodes)
