-- The legs so far are clear, and the lent set keeps its size.
use Rattle.std.proofs.Common.{◌≡◌, length}
use Rattle.drm_plan.specs.Legs.{AreClearTo}
use Rattle.drm_plan.proofs.legs.first_met.Given as goal

abbrev pub invariant-loop-k : goal.invariant-loop-k
invariant-loop-k l = AreClearTo l.map l.snap l.nodes l.k × (length l.left ≡ length l.initial.left)
