-- The roadmap as contracts see it: the arm, the grid, the nodes and edges, and each element's stored sweep.
use Rattle.std.specs.Prelude.{ℕ, ◌≡◌, ◌+◌, ◌<◌, ◌≤◌, List, [], length, All, sum_by, slice_index_or}
use Rattle.std.specs.List.Sorted.{IsStrictlyIncreasing}
use Rattle.drm_arm.specs.declared.arm.Link.{Link}
use Rattle.drm_arm.specs.declared.config.Motion.{Motion}
use Rattle.drm_arm.specs.Arm.{IsArm}
use Rattle.drm_arm.specs.Config.{IsConfig}
use Rattle.drm_grid.specs.Layout.{Layout, IsGrid, cell_count}
use Rattle.drm_grid.specs.Fits.{Fits}
use Rattle.drm_road.specs.Road.{Road, IsRoad, IsPart, motion_of}
use Rattle.drm_talk.specs.declared.Element.{Element}
use Rattle.drm_talk.specs.declared.Element.TheVariants.{Node, Edge}
use Rattle.drm_cellmap.specs.Limits.{max_entries}
use Rattle.drm_road.specs.Elements.{node_count, element_count}

-- the sweeps are those of the nodes, and then those of the edges
pub record Roadmap : Type 0 where
  pub arm : List Link
  pub grid : Layout
  pub road : Road
  pub sweeps : List (List ℕ)

-- the roadmap with these parts
abbrev pub of_parts : List Link → Layout → Road → List (List ℕ) → Roadmap
of_parts arm grid road sweeps = record { arm = arm; grid = grid; road = road; sweeps = sweeps }

-- the map has the element
abbrev pub IsElement : Roadmap → Element → Type 0
IsElement map element = IsPart map.road element

-- the place of an element's sweep
abbrev pub place_of : Roadmap → Element → ℕ
place_of map (Node i) = i
place_of map (Edge i) = node_count map.road + i

-- the cells that are stored for an element
abbrev pub stored : Roadmap → Element → List ℕ
stored map element = slice_index_or map.sweeps (place_of map element) []

-- what is stored for each element has the property, which is one of a grid, an arm, a motion and cells
abbrev pub EachStored : (Layout → List Link → Motion → List ℕ → Type 0) → Roadmap → Type 0
EachStored Is map = (element : Element) → IsElement map element → Is map.grid map.arm (motion_of map.road element) (stored map element)

-- a sweep that may be stored: cells of the grid in increasing order
pub record IsSweep (grid : Layout) (cells : List ℕ) : Type 0 where
  pub increasing : IsStrictlyIncreasing cells
  pub in_grid : All (λ cell. cell < cell_count grid) cells

-- how many cells the lists have together
abbrev pub entries_of : List (List ℕ) → ℕ
entries_of sweeps = sum_by (λ cells. length cells) sweeps

-- a roadmap within the limits: the nodes are configurations of an arm that stays within the grid
pub record IsRoadmap (map : Roadmap) : Type 0 where
  pub arm : IsArm map.arm
  pub grid : IsGrid map.grid
  pub fits : Fits map.grid map.arm
  pub road : IsRoad map.road
  pub nodes : All (IsConfig map.arm) map.road.nodes
  pub one_each : length map.sweeps ≡ element_count map.road
  pub sweeps : All (IsSweep map.grid) map.sweeps
  pub entries : entries_of map.sweeps ≤ max_entries
