-- Each part of the map is determined.
use Rattle.drm_build.proofs.BuiltLemmas.{one_map}
use Rattle.drm_build.proofs.laws.robots_have_one_map.Goals as goal

pub returns : goal.returns
returns c = one_map
