-- The least-numbered node over the edges so far.
use Rattle.drm_route.specs.Trace.{IsLeastStep}
use Rattle.drm_route.proofs.shortest.step_back.Given as goal

abbrev pub invariant-loop-i : goal.invariant-loop-i
invariant-loop-i l = IsLeastStep l.road l.snap l.labels l.v l.i l.least
