-- The law is the lemma.
use Rattle.drm_grid.proofs.NearLemmas.{cell_at}
use Rattle.drm_grid.proofs.laws.cells_are_at_places.Goals as goal

pub returns : goal.returns
returns c = cell_at
