-- The cells near the links before the current one are taken out.
use Rattle.drm_sweep.specs.Taken.{TakesOut, Among}
use Rattle.drm_sweep.specs.Swept.{IsNearLink}
use Rattle.drm_sweep.proofs.sweeper.Sweeper.take_pose.Given as goal

abbrev pub invariant-loop-k : goal.invariant-loop-k
invariant-loop-k l = TakesOut (Among 0 l.k (IsNearLink l.self.grid.now l.self.arm.now l.pose l.self.pad)) l.initial.cells l.cells
