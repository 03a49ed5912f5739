-- The law is the lemma.
use Rattle.drm_grid.proofs.PlaceLemmas.{in_some_cell}
use Rattle.drm_grid.proofs.laws.points_within_are_in_cells.Goals as goal

pub returns : goal.returns
returns c = in_some_cell
