-- No cell of the words before the current one is in the set and from the first on.
use Rattle.drm_grid.proofs.LeastLemmas.{NoneBefore, HasFrom}
use Rattle.drm_grid.proofs.cell_set.CellSet.next_in.Given as goal

abbrev pub invariant-loop-place : goal.invariant-loop-place
invariant-loop-place l = NoneBefore (HasFrom l.fn.self l.first) l.place
