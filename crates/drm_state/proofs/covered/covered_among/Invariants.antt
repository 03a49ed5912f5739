-- The cells so far were counted, and there are no more than there were cells.
use Rattle.std.proofs.Common.{◌≤◌, take}
use Rattle.drm_cellmap.specs.Tally.{IsTally}
use Rattle.drm_foot.specs.Occupied.{IsCovered}
use Rattle.drm_state.proofs.covered.covered_among.Given as goal

abbrev pub invariant-loop-cell : goal.invariant-loop-cell
invariant-loop-cell l = (l.count ≤ l.cell-index) × IsTally (IsCovered l.grid l.table) (take l.cell-index l.cells) l.count
