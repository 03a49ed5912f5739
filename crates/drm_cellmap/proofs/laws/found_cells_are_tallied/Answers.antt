-- The cell is counted where it stands.
use Rattle.drm_grid.specs.CellSet.{Has}
use Rattle.drm_cellmap.proofs.OpenLemmas.{tally_found}
use Rattle.drm_cellmap.proofs.laws.found_cells_are_tallied.Goals as goal

pub returns : goal.returns
returns c = λ set cells k cell tally (i, below, is) has. tally_found (Has set) cells k i cell tally below is has
