-- Laws of the maps of robots.
use Rattle.std.specs.Prelude.{ℕ, ◌≡◌, ◌/◌, ◌<◌, ◌≤◌, List, [], length, slice_index_or, Contains}
use Rattle.drm_arm.specs.Arm.{IsArm}
use Rattle.drm_grid.specs.Layout.{IsGrid}
use Rattle.drm_road.specs.Road.{Road, motion_of}
use Rattle.drm_road.specs.Elements.{element_count, element_at}
use Rattle.drm_robot.specs.declared.Robot.{Robot}
use Rattle.drm_sweep.specs.Near.{IsNear}
use Rattle.drm_sweep.specs.Laws.{IsSound, IsPassed}
use Rattle.drm_cellmap.specs.Limits.{max_entries}
use Rattle.drm_cellmap.specs.Roadmap.{Roadmap, IsRoadmap, EachStored, entries_of}
use Rattle.drm_build.specs.declared.building.BuildFault.{BuildFault}
use Rattle.drm_build.specs.Built.{IsRoadOf, IsMapOf, IsTooLong}

-- a robot has one map
abbrev pub RobotsHaveOneMap : Type 0
RobotsHaveOneMap = (robot : Robot) (one other : Roadmap) → IsMapOf robot one → IsMapOf robot other → one ≡ other

-- the map of a robot is sound: each stored sweep holds all that its motion comes near, and little more
abbrev pub MapsOfRobotsAreSound : Type 0
MapsOfRobotsAreSound = (robot : Robot) (map : Roadmap) → IsMapOf robot map → IsRoadmap map → EachStored IsSound map

-- a sound map passes
abbrev pub SoundMapsPass : Type 0
SoundMapsPass = (map : Roadmap) → IsRoadmap map → EachStored IsSound map → EachStored IsPassed map

-- the cells that the element at a place of the road comes within half of the side of
abbrev pub IsNearElement : Robot → Road → ℕ → ℕ → Type 0
IsNearElement robot road place cell =
    IsNear robot.grid robot.arm (motion_of road (element_at road place)) (robot.grid.side / 2) cell

-- there is a list for each element, which has all cells that the element comes within half of the side of
pub record HoldNearCells (robot : Robot) (road : Road) (lists : List (List ℕ)) : Type 0 where
  pub one_each : length lists ≡ element_count road
  pub near : (place cell : ℕ) → place < element_count road → IsNearElement robot road place cell
      → Contains (slice_index_or lists place []) cell

-- a robot's map is not too long where the cells within half of a side of its elements, counted for each element, are
-- together no more than a map may store
abbrev pub RobotsNearFewCellsHaveMaps : Type 0
RobotsNearFewCellsHaveMaps =
    (robot : Robot) (road : Road) (near : List (List ℕ)) (fault : BuildFault) →
    IsArm robot.arm → IsGrid robot.grid → IsRoadOf robot road → HoldNearCells robot road near →
    entries_of near ≤ max_entries → ¬ IsTooLong robot fault
