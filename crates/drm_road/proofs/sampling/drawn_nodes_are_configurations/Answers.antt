-- Each draw gives each joint a coordinate within its limits.
use Rattle.drm_road.proofs.DrawLaws.{drawn_are_configs}
use Rattle.drm_road.proofs.sampling.drawn_nodes_are_configurations.Goals as goal

pub returns : goal.returns
returns c = drawn_are_configs
