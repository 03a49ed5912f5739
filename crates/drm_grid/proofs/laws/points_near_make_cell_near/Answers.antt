-- The law is the lemma.
use Rattle.drm_grid.proofs.NearLemmas.{near_from_points}
use Rattle.drm_grid.proofs.laws.points_near_make_cell_near.Goals as goal

pub returns : goal.returns
returns c = near_from_points
