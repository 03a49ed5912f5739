-- The swept cells of a road's elements as sets, before they are listed.
use Rattle.std.specs.Prelude.{ℕ, ◌≡◌, ◌/◌, ◌<◌, ◌↔◌, Bool, List, [], length, slice_index_or}
use Rattle.std.specs.List.{AllZip}
use Rattle.drm_grid.specs.Layout.{cell_count}
use Rattle.drm_grid.specs.CellSet.{Has, AreCells}
use Rattle.drm_road.specs.Road.{Road, motion_of}
use Rattle.drm_robot.specs.declared.Robot.{Robot}
use Rattle.drm_sweep.specs.Swept.{IsSwept}
use Rattle.drm_road.specs.Elements.{element_count, element_at}
use Rattle.drm_cellmap.specs.Roadmap.{entries_of}

-- the set has the cells that the element at the place sweeps with a quarter of the side as pad
pub record IsSetAt (robot : Robot) (road : Road) (place : ℕ) (set : List Bool) : Type 0 where
  pub size : length set ≡ cell_count robot.grid
  pub exact : (cell : ℕ) → Has set cell ↔ IsSwept robot.grid robot.arm (motion_of road (element_at road place)) (robot.grid.side / 4) cell

-- there is one set for each element, at its place
pub record AreSetsOf (robot : Robot) (road : Road) (sets : List (List Bool)) : Type 0 where
  pub one_each : length sets ≡ element_count road
  pub each : (place : ℕ) → place < element_count road → IsSetAt robot road place (slice_index_or sets place [])

-- the set has n cells
abbrev pub HasCells : List Bool → ℕ → Type 0
HasCells set n = (cells : List ℕ) × AreCells set cells × (n ≡ length cells)

-- the sets have n cells together
abbrev pub HaveEntries : List (List Bool) → ℕ → Type 0
HaveEntries sets n = (lists : List (List ℕ)) × AllZip AreCells sets lists × (n ≡ entries_of lists)
