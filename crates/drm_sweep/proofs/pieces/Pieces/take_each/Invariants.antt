-- The cells near the pieces before the current one are taken out.
use Rattle.drm_sweep.specs.Runs.{IsNearRun}
use Rattle.drm_sweep.specs.Taken.{TakesOut}
use Rattle.drm_sweep.proofs.pieces.Pieces.take_each.Given as goal

abbrev pub invariant-loop-p : goal.invariant-loop-p
invariant-loop-p l = TakesOut (IsNearRun l.self.grid.now l.self.pose.now l.self.link l.self.cut l.self.far l.first l.p) l.initial.cells l.cells
