-- The cells below the current one are there.
use Rattle.std.proofs.Common.{◌-◌}
use Rattle.drm_grid.proofs.ListLemmas.{ListsBelow}
use Rattle.drm_grid.proofs.cell_set.CellSet.to_list.Given as goal

abbrev pub invariant-loop-cell : goal.invariant-loop-cell
invariant-loop-cell l = ListsBelow l.fn.self l.cells.items l.first

abbrev pub decreases-loop-cell : goal.decreases-loop-cell
decreases-loop-cell l = l.self-inside.cells - l.first
