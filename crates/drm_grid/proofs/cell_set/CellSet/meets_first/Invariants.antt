-- No cell of the words before the current one is of the kind.
use Rattle.drm_grid.specs.CellSet.{IsCommon}
use Rattle.drm_grid.proofs.LeastLemmas.{NoneBefore}
use Rattle.drm_grid.proofs.cell_set.CellSet.meets_first.Given as goal

abbrev pub invariant-loop-place : goal.invariant-loop-place
invariant-loop-place l = NoneBefore (IsCommon l.fn.self l.fn.other) l.place
