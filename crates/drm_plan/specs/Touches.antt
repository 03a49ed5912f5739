-- Which motions touch obstacles, and which occupied cells they come near.
use Rattle.std.specs.Prelude.{ℕ, ◌/◌, List}
use Rattle.drm_arm.specs.declared.arm.Link.{Link}
use Rattle.drm_arm.specs.declared.config.Motion.{Motion}
use Rattle.drm_grid.specs.CellSet.{Has}
use Rattle.drm_shape.specs.declared.Shape.{Shape}
use Rattle.drm_shape.specs.Held.{Holds}
use Rattle.drm_shape.specs.Validity.{IsValid}
use Rattle.drm_foot.specs.Foot.{Foot}
use Rattle.drm_talk.specs.declared.Entry.{Entry}
use Rattle.drm_pose.specs.Chain.{Point}
use Rattle.drm_pose.specs.Moment.{Moment}
use Rattle.drm_pose.specs.Reach.{Reaches}
use Rattle.drm_sweep.specs.Near.{IsNear}
use Rattle.drm_cellmap.specs.Roadmap.{Roadmap}
use Rattle.drm_cellmap.specs.Snapshot.{Snapshot}
use Rattle.drm_after.specs.After.{IsOccupiedAfter}

-- at some moment the arm reaches a point, without a pad, that one of the shapes holds
pub record Touches (links : List Link) (motion : Motion) (stands : Shape → Type 0) : Type 0 where
  pub moment : Moment
  pub point : Point
  pub shape : Shape
  pub reached : Reaches links motion moment 0 point
  pub standing : stands shape
  pub held : Holds shape point.x point.y point.d

-- the shape is valid, and its footprint lies in the occupied cells
pub record IsCovered (map : Roadmap) (snap : Snapshot) (shape : Shape) : Type 0 where
  pub valid : IsValid shape
  pub within : (cell : ℕ) → Foot map.grid shape cell → Has snap.occupied cell

-- the cell is occupied after the history, and the motion comes within a quarter of the cells' side of it
pub record ComesNear (map : Roadmap) (history : List Entry) (motion : Motion) (cell : ℕ) : Type 0 where
  pub near : IsNear map.grid map.arm motion (map.grid.side / 4) cell
  pub occupied : IsOccupiedAfter map history cell
