-- No cell of the set before the next one is near the box.
use Rattle.std.proofs.Common.{◌-◌}
use Rattle.drm_sweep.proofs.RunLemmas.{IsDone}
use Rattle.drm_sweep.proofs.cells.Vicinity.meets_run.Given as goal

abbrev pub invariant-loop-cell : goal.invariant-loop-cell
invariant-loop-cell l = IsDone l.self.grid.now l.self.plate l.self.far l.first l.end l.next l.cells l.cells

abbrev pub decreases-loop-cell : goal.decreases-loop-cell
decreases-loop-cell l = l.end - l.next
