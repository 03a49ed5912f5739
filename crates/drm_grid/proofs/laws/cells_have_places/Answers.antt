-- The law is the lemma.
use Rattle.drm_grid.proofs.NearLemmas.{place_of}
use Rattle.drm_grid.proofs.laws.cells_have_places.Goals as goal

pub returns : goal.returns
returns c = place_of
