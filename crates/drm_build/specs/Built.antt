-- The map of a robot: the nodes that it draws, the edges that pair them, and what each element sweeps.
use Rattle.std.specs.Prelude.{ℕ, ◌≡◌, ◌/◌, ◌<◌, ◌↔◌, List, length, All, Contains}
use Rattle.drm_arm.specs.declared.arm.Link.{Link}
use Rattle.drm_arm.specs.declared.config.Motion.{Motion}
use Rattle.drm_grid.specs.Layout.{Layout}
use Rattle.drm_road.specs.Draws.{generator_of, draws_of, unrepeated}
use Rattle.drm_road.specs.Pairs.{ArePairs}
use Rattle.drm_road.specs.Road.{Road}
use Rattle.drm_robot.specs.declared.Robot.{Robot}
use Rattle.drm_sweep.specs.Swept.{IsSwept}
use Rattle.drm_cellmap.specs.Limits.{max_entries}
use Rattle.drm_road.specs.Elements.{element_count}
use Rattle.drm_cellmap.specs.Roadmap.{Roadmap, IsSweep, EachStored, entries_of}
use Rattle.drm_build.specs.declared.building.BuildFault.{BuildFault}
use Rattle.drm_build.specs.declared.building.BuildFault.TheVariants.{Total}

-- the cells are exactly those that the motion sweeps with a quarter of the side as pad
abbrev pub AreSwept : Layout → List Link → Motion → List ℕ → Type 0
AreSwept grid links motion cells = (cell : ℕ) → Contains cells cell ↔ IsSwept grid links motion (grid.side / 4) cell

-- the nodes are those that the robot draws, each once, and the edges pair the nodes that are near each other
pub record IsRoadOf (robot : Robot) (road : Road) : Type 0 where
  pub nodes : road.nodes ≡ unrepeated (draws_of robot.arm (generator_of robot.seed) robot.draws)
  pub edges : ArePairs road.nodes robot.near road.edges

-- the robot's arm, grid and road, and for each element what it sweeps, in increasing order, however many cells that are
pub record IsMapOf (robot : Robot) (map : Roadmap) : Type 0 where
  pub arm : map.arm ≡ robot.arm
  pub grid : map.grid ≡ robot.grid
  pub road : IsRoadOf robot map.road
  pub one_each : length map.sweeps ≡ element_count map.road
  pub sweeps : All (IsSweep map.grid) map.sweeps
  pub swept : EachStored AreSwept map

-- the robot's map has more cells in its sweeps than a map may have, and the fault tells how many
pub record IsTooLong (robot : Robot) (fault : BuildFault) : Type 0 where
  pub map : Roadmap
  pub is_map : IsMapOf robot map
  pub long : max_entries < entries_of map.sweeps
  pub told : fault ≡ Total (entries_of map.sweeps)
