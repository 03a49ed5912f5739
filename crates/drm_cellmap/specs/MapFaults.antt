-- The first rule of maps that an arm, a grid, a road and lists of cells break.
use Rattle.std.specs.Prelude.{ℕ, ◌+◌, ◌*◌, ◌/◌, Bool, true, ◌&&◌, nat_eq, nat_lt, nat_le, ℤ, List, [], ◌∷◌, length, Option}
use Rattle.std.specs.List.{list_all, zip}
use Rattle.drm_num.specs.FirstBroken.{unless, broken_at, first_of}
use Rattle.drm_arm.specs.declared.arm.Link.{Link}
use Rattle.drm_arm.specs.Arm.{IsArm, reach_of}
use Rattle.drm_arm.specs.Config.{allows}
use Rattle.drm_grid.specs.Layout.{Layout, IsGrid, cell_count}
use Rattle.drm_road.specs.Road.{IsRoad}
use Rattle.drm_cellmap.specs.declared.map.MapFault.{MapFault}
use Rattle.drm_cellmap.specs.declared.map.MapFault.TheVariants.{Fit, Node, Sweeps, Order, Total}
use Rattle.drm_cellmap.specs.Limits.{max_entries}
use Rattle.drm_road.specs.Elements.{element_count}
use Rattle.drm_cellmap.specs.Roadmap.{Roadmap, entries_of}

-- the arm, stretched out in any direction, stays within the grid, as a test
abbrev pub fits : Layout → List Link → Bool
fits grid links = list_all (λ link. nat_le (reach_of links + link.radius) (grid.side * (grid.n / 2))) links

-- there is one coordinate for each joint, within its limits, as a test
abbrev pub is_config : List Link → List ℤ → Bool
is_config links values = nat_eq (length links) (length values) && list_all (λ pair. allows pair.0 pair.1) (zip links values)

-- each cell is above the one before it
abbrev pub rises : List ℕ → Bool
rises [] = true
rises (cell ∷ []) = true
rises (cell ∷ next ∷ rest) = nat_lt cell next && rises (next ∷ rest)

-- the cells are below the number of the grid's cells, and rise, as a test
abbrev pub is_sweep : ℕ → List ℕ → Bool
is_sweep count cells = rises cells && list_all (λ cell. nat_lt cell count) cells

-- the parts, before they are tested together: an arm, a grid and a road within their limits
pub record AreParts (map : Roadmap) : Type 0 where
  pub arm : IsArm map.arm
  pub grid : IsGrid map.grid
  pub road : IsRoad map.road

-- the first rule that the map breaks, with the number found, or none
abbrev pub map_fault : Roadmap → Option MapFault
map_fault map =
    first_of (unless (fits map.grid map.arm) Fit
    ∷ broken_at Node (is_config map.arm) map.road.nodes
    ∷ unless (nat_eq (length map.sweeps) (element_count map.road)) (Sweeps (length map.sweeps))
    ∷ broken_at Order (is_sweep (cell_count map.grid)) map.sweeps
    ∷ unless (nat_le (entries_of map.sweeps) max_entries) (Total (entries_of map.sweeps))
    ∷ [])
