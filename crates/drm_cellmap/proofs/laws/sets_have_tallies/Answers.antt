-- A flag is raised or not, so the tally is counted along the list.
use Rattle.drm_grid.specs.CellSet.{Has}
use Rattle.drm_cellmap.proofs.OpenLemmas.{tally_exists, has_decided}
use Rattle.drm_cellmap.proofs.laws.sets_have_tallies.Goals as goal

pub returns : goal.returns
returns c = λ set cells. tally_exists (Has set) (has_decided set) cells
