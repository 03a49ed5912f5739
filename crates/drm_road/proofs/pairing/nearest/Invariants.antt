use Rattle.drm_road.specs.Nearest.{AreNearest}
use Rattle.drm_road.proofs.pairing.nearest.Given as goal

abbrev pub invariant-loop-j : goal.invariant-loop-j
invariant-loop-j l = AreNearest l.nodes l.near l.i l.j l.best.items
