-- Laws of swept cells.
use Rattle.std.specs.Prelude.{ℕ, ◌+◌, ◌/◌, ◌↔◌, List, Contains}
use Rattle.drm_arm.specs.declared.arm.Link.{Link}
use Rattle.drm_arm.specs.declared.config.Motion.{Motion}
use Rattle.drm_arm.specs.Arm.{IsArm}
use Rattle.drm_arm.specs.Motion.{IsMotion, reversed}
use Rattle.drm_grid.specs.Layout.{Layout, IsGrid}
use Rattle.drm_grid.specs.Fits.{Fits}
use Rattle.drm_grid.specs.Laws.{IsInSomeCell}
use Rattle.drm_pose.specs.Boxes.{pose_of}
use Rattle.drm_pose.specs.Chain.{Point}
use Rattle.drm_pose.specs.Moment.{Moment}
use Rattle.drm_pose.specs.Reach.{Reaches}
use Rattle.drm_pose.specs.Widths.{IsLeaf}
use Rattle.drm_sweep.specs.Near.{IsNear}
use Rattle.drm_sweep.specs.Swept.{IsSwept}

-- a grid, an arm and a motion of the arm
pub record IsScene (grid : Layout) (links : List Link) (motion : Motion) : Type 0 where
  pub is_grid : IsGrid grid
  pub is_arm : IsArm links
  pub is_motion : IsMotion links motion

-- the stored cells hold every cell within a quarter of the side of the motion, and none farther than half of the side
pub record IsSound (grid : Layout) (links : List Link) (motion : Motion) (stored : List ℕ) : Type 0 where
  pub holds : (cell : ℕ) → IsNear grid links motion (grid.side / 4) cell → Contains stored cell
  pub within : (cell : ℕ) → Contains stored cell → IsNear grid links motion (grid.side / 2) cell

-- the stored cells hold the swept cells without a pad, and none but the swept cells with half of the side as pad
pub record IsPassed (grid : Layout) (links : List Link) (motion : Motion) (stored : List ℕ) : Type 0 where
  pub holds : (cell : ℕ) → IsSwept grid links motion 0 cell → Contains stored cell
  pub within : (cell : ℕ) → Contains stored cell → IsSwept grid links motion (grid.side / 2) cell

-- the cells that the motion comes near are swept
abbrev pub NearCellsAreSwept : Type 0
NearCellsAreSwept =
    (grid : Layout) (links : List Link) (motion : Motion) (pad cell : ℕ) →
    IsScene grid links motion → IsNear grid links motion pad cell → IsSwept grid links motion pad cell

-- and the motion comes within a quarter of the side more of each swept cell
abbrev pub SweptCellsAreNear : Type 0
SweptCellsAreNear =
    (grid : Layout) (links : List Link) (motion : Motion) (pad cell : ℕ) →
    IsScene grid links motion → IsSwept grid links motion pad cell → IsNear grid links motion (pad + grid.side / 4) cell

-- stored cells that are sound pass
abbrev pub SoundSweepsPass : Type 0
SoundSweepsPass =
    (grid : Layout) (links : List Link) (motion : Motion) (stored : List ℕ) →
    IsScene grid links motion → IsSound grid links motion stored → IsPassed grid links motion stored

-- a pose that was halved 20 times is a leaf
abbrev pub DeepestPosesAreLeaves : Type 0
DeepestPosesAreLeaves =
    (grid : Layout) (links : List Link) (motion : Motion) (index : ℕ) →
    IsScene grid links motion → IsLeaf grid.side (pose_of links motion 20 index)

-- a motion and its reverse sweep the same cells
abbrev pub ReversedMotionsSweepTheSame : Type 0
ReversedMotionsSweepTheSame =
    (grid : Layout) (links : List Link) (motion : Motion) (pad cell : ℕ) →
    IsSwept grid links motion pad cell ↔ IsSwept grid links (reversed motion) pad cell

-- each point that a motion reaches without a pad lies in a cell of a grid that the arm stays within
abbrev pub ReachedPointsAreInCells : Type 0
ReachedPointsAreInCells =
    (grid : Layout) (links : List Link) (motion : Motion) (m : Moment) (q : Point) →
    IsGrid grid → Fits grid links → Reaches links motion m 0 q → IsInSomeCell grid q.x q.y q.d
