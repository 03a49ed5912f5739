-- A law of the nodes that are drawn.
use Rattle.std.specs.Prelude.{ℕ, List, All}
use Rattle.drm_arm.specs.declared.arm.Link.{Link}
use Rattle.drm_arm.specs.Arm.{IsArm}
use Rattle.drm_arm.specs.Config.{IsConfig}
use Rattle.drm_road.specs.Draws.{generator_of, draws_of, unrepeated}

-- the nodes that an arm draws are configurations of it
abbrev pub DrawnNodesAreConfigurations : Type 0
DrawnNodesAreConfigurations =
    (links : List Link) (seed draws : ℕ) → IsArm links → All (IsConfig links) (unrepeated (draws_of links (generator_of seed) draws))
