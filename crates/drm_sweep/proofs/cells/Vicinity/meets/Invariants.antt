-- No cell of the set is near the box in the rows before the current one.
use Rattle.drm_sweep.specs.Taken.{TakesOut, Among}
use Rattle.drm_sweep.proofs.RunLemmas.{IsNearInRow}
use Rattle.drm_sweep.proofs.cells.Vicinity.meets.Given as goal

abbrev pub invariant-loop-row : goal.invariant-loop-row
invariant-loop-row l = TakesOut (Among l.initial.row l.row (IsNearInRow l.self.grid.now l.self.plate l.self.far l.near_columns)) l.cells l.cells
