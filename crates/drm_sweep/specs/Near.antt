-- Which cells a motion comes near.
use Rattle.std.specs.Prelude.{ℕ, ◌<◌, List}
use Rattle.drm_arm.specs.declared.arm.Link.{Link}
use Rattle.drm_arm.specs.declared.config.Motion.{Motion}
use Rattle.drm_grid.specs.Layout.{Layout, IsInCell, cell_count}
use Rattle.drm_pose.specs.Chain.{Point}
use Rattle.drm_pose.specs.Moment.{Moment}
use Rattle.drm_pose.specs.Reach.{Reaches}

-- the cell is one of the grid, and holds a point that the motion of the arm reaches with the pad at some moment
pub record IsNear (grid : Layout) (links : List Link) (motion : Motion) (pad cell : ℕ) : Type 0 where
  pub in_grid : cell < cell_count grid
  pub moment : Moment
  pub point : Point
  pub reached : Reaches links motion moment pad point
  pub inside : IsInCell grid cell point.x point.y point.d
