-- No cell of the words before the current one is of the kind.
use Rattle.drm_grid.specs.CellSet.{IsMissing}
use Rattle.drm_grid.proofs.LeastLemmas.{NoneBefore}
use Rattle.drm_grid.proofs.cell_set.CellSet.first_outside.Given as goal

abbrev pub invariant-loop-place : goal.invariant-loop-place
invariant-loop-place l = NoneBefore (IsMissing l.fn.self l.fn.other) l.place
