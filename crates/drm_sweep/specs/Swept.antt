-- The swept cells of a motion: which cells its boxes come near, where it is halved until the boxes are small.
use Rattle.std.specs.Prelude.{◌≡◌, ◌⊎◌, ℕ, zero, suc, ◌+◌, ◌-◌, ◌*◌, ◌/◌, ◌<◌, List, slice_get, Some}
use Rattle.drm_arm.specs.declared.arm.Link.{Link}
use Rattle.drm_arm.specs.declared.config.Motion.{Motion}
use Rattle.drm_grid.specs.Layout.{Layout, cell_count}
use Rattle.drm_grid.specs.Near.{IsNearBox}
use Rattle.drm_pose.specs.declared.boxes.LinkBox.{LinkBox}
use Rattle.drm_pose.specs.Boxes.{pose_of, piece_of}
use Rattle.drm_pose.specs.Widths.{IsLeaf}

-- how many pieces a link is cut in: the least number for which none is longer than a sixteenth of the side
abbrev pub pieces_of : ℕ → ℕ → ℕ
pieces_of len side = (16 * len + (side - 1)) / side

-- the cell is near the box of piece p of link k
pub record IsNearPart (grid : Layout) (links : List Link) (boxes : List LinkBox) (pad k p cell : ℕ) : Type 0 where
  pub link : Link
  pub box : LinkBox
  pub is_link : slice_get links k ≡ Some link
  pub is_box : slice_get boxes k ≡ Some box
  pub in_link : p < pieces_of link.len grid.side
  pub near : IsNearBox grid (piece_of box p (pieces_of link.len grid.side)).x (piece_of box p (pieces_of link.len grid.side)).y cell (link.radius + pad)

-- the cell is near the box of some piece of link k
abbrev pub IsNearLink : Layout → List Link → List LinkBox → ℕ → ℕ → ℕ → Type 0
IsNearLink grid links boxes pad k cell = (p : ℕ) × IsNearPart grid links boxes pad k p cell

-- the cell is near the box of some piece of some link
abbrev pub IsNearPose : Layout → List Link → List LinkBox → ℕ → ℕ → Type 0
IsNearPose grid links boxes pad cell = (k : ℕ) × (p : ℕ) × IsNearPart grid links boxes pad k p cell

-- what a piece of the motion gives, which may be halved this many times more: a leaf gives the cells near its pose,
-- and any other pose what its halves give
unfoldable pub Sweeps : Layout → List Link → Motion → ℕ → ℕ → ℕ → ℕ → ℕ → Type 0
Sweeps grid links motion pad cell zero depth index = IsNearPose grid links (pose_of links motion depth index) pad cell
Sweeps grid links motion pad cell (suc halvings) depth index =
    (IsLeaf grid.side (pose_of links motion depth index) × IsNearPose grid links (pose_of links motion depth index) pad cell)
    ⊎ ((¬ IsLeaf grid.side (pose_of links motion depth index))
    × (Sweeps grid links motion pad cell halvings (depth + 1) (2 * index) ⊎ Sweeps grid links motion pad cell halvings (depth + 1) (2 * index + 1)))

-- the cell is one of the grid that the whole motion gives; a pose that was halved 20 times counts as a leaf
unfoldable pub IsSwept : Layout → List Link → Motion → ℕ → ℕ → Type 0
IsSwept grid links motion pad cell = (cell < cell_count grid) × Sweeps grid links motion pad cell 20 0 0
