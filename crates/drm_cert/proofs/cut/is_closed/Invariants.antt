-- The edges so far, where they are not barred, have both ends in the side or neither.
use Rattle.drm_cert.proofs.EdgeLemmas.{EachOpen}
use Rattle.drm_cert.specs.Near.{AreAlike}
use Rattle.drm_cert.proofs.cut.is_closed.Given as goal

abbrev pub invariant-loop-i : goal.invariant-loop-i
invariant-loop-i l = EachOpen l.road l.snap l.i (AreAlike l.side)
