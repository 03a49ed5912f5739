-- The set has exactly the cells that the slots so far occupy.
use Rattle.std.proofs.Common.{take}
use Rattle.drm_grid.specs.Layout.{cell_count}
use Rattle.drm_foot.specs.Occupied.{HasExactly, IsCovered}
use Rattle.drm_foot.proofs.occupied.covered_cells.Given as goal

abbrev pub invariant-loop-slot : goal.invariant-loop-slot
invariant-loop-slot l = HasExactly (cell_count l.grid) (IsCovered l.grid (take l.slot-index l.table)) l.set
