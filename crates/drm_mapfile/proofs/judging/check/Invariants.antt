-- Each element so far passes.
use Rattle.drm_mapfile.specs.Verdict.{AllPassBefore}
use Rattle.drm_mapfile.proofs.judging.check.Given as goal

abbrev pub invariant-loop-place : goal.invariant-loop-place
invariant-loop-place l = AllPassBefore l.map l.place
