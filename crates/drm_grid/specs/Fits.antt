-- Which grids an arm stays within.
use Rattle.std.specs.Prelude.{◌+◌, ◌≤◌, List, All}
use Rattle.drm_arm.specs.Arm.{reach_of}
use Rattle.drm_arm.specs.declared.arm.Link.{Link}
use Rattle.drm_grid.specs.Layout.{Layout, half_side}

-- the arm, stretched out in any direction, stays within the grid
abbrev pub Fits : Layout → List Link → Type 0
Fits grid links = All (λ link. reach_of links + link.radius ≤ half_side grid) links
