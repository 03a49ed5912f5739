-- The law is the lemma.
use Rattle.drm_grid.proofs.NearLemmas.{points_from_near}
use Rattle.drm_grid.proofs.laws.cell_near_has_points_near.Goals as goal

pub returns : goal.returns
returns c = points_from_near
