-- The edge, if there is one, lies between low and high.
use Rattle.std.proofs.Common.{ℕ, ◌<◌, ◌≤◌, ◌-◌, length}
use Rattle.drm_cellmap.specs.Elements.{HasEnds}
use Rattle.drm_cert.proofs.joined.edge_between.Given as goal

abbrev pub invariant-loop-low : goal.invariant-loop-low
invariant-loop-low l =
    (l.high ≤ length l.road.edges) × ((edge : ℕ) → HasEnds l.road edge l.a l.b → (l.low ≤ edge) × (edge < l.high))

abbrev pub decreases-loop-low : goal.decreases-loop-low
decreases-loop-low l = l.high - l.low
