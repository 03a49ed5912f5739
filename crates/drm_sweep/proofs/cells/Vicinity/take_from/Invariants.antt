-- The near cells of the rows before the current one are taken out.
use Rattle.drm_sweep.specs.Taken.{TakesOut, Among}
use Rattle.drm_sweep.proofs.RunLemmas.{IsNearInRow}
use Rattle.drm_sweep.proofs.cells.Vicinity.take_from.Given as goal

abbrev pub invariant-loop-row : goal.invariant-loop-row
invariant-loop-row l = TakesOut (Among l.initial.row l.row (IsNearInRow l.self.grid.now l.self.plate l.self.far l.columns)) l.initial.cells l.cells
