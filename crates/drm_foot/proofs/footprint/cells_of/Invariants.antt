-- The cells of the rows before this one are there.
use Rattle.drm_foot.specs.Block.{IsFootBefore}
use Rattle.drm_foot.proofs.footprint.cells_of.Given as goal

abbrev pub invariant-loop-row : goal.invariant-loop-row
invariant-loop-row l = IsFootBefore l.grid l.shape l.row l.cells.items
