-- Stored cells are near, so they are no more.
use Rattle.drm_build.proofs.FewLemmas.{not_too_long}
use Rattle.drm_build.proofs.laws.robots_near_few_cells_have_maps.Goals as goal

pub returns : goal.returns
returns c = not_too_long c.swept_cells_are_near.ensures c.drawn_nodes_are_configurations.ensures
