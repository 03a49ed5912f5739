-- The round so far.
use Rattle.drm_route.specs.Rounds.{IsRound}
use Rattle.drm_route.proofs.labels.relax.Given as goal

abbrev pub invariant-loop-i : goal.invariant-loop-i
invariant-loop-i l = IsRound l.road l.snap l.fn.labels l.i l.labels l.changed
