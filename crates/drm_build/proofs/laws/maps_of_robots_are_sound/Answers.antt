-- The laws of swept cells, for each element.
use Rattle.drm_build.proofs.SoundLemmas.{sound}
use Rattle.drm_build.proofs.laws.maps_of_robots_are_sound.Goals as goal

pub returns : goal.returns
returns c = sound c.near_cells_are_swept.ensures c.swept_cells_are_near.ensures
