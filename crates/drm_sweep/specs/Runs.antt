-- The near cells of a run of cells, and those near a piece of a link.
use Rattle.std.specs.Prelude.{◌≡◌, ℕ, ◌+◌, ◌<◌, ◌≤◌, List, slice_get, Some}
use Rattle.drm_arm.specs.declared.arm.Link.{Link}
use Rattle.drm_grid.specs.Layout.{Layout}
use Rattle.drm_grid.specs.Near.{IsNearBox}
use Rattle.drm_pose.specs.declared.boxes.Plate.{Plate}
use Rattle.drm_pose.specs.declared.boxes.LinkBox.{LinkBox}
use Rattle.drm_pose.specs.Boxes.{piece_of}
use Rattle.drm_sweep.specs.Swept.{pieces_of}
use Rattle.drm_sweep.specs.Taken.{Among}

-- the cell is this one, and is near the box
abbrev pub IsNearAt : Layout → Plate → ℕ → ℕ → ℕ → Type 0
IsNearAt grid plate far at cell = (cell ≡ at) × IsNearBox grid plate.x plate.y cell far

-- the cell is from `first` on and below `end`, and is near the box
abbrev pub IsNearBetween : Layout → Plate → ℕ → ℕ → ℕ → ℕ → Type 0
IsNearBetween grid plate far first end cell = (first ≤ cell) × (cell < end) × IsNearBox grid plate.x plate.y cell far

-- the cell is at most `far` units from the box of piece p of n of link k
pub record IsNearPiece (grid : Layout) (boxes : List LinkBox) (k n far p cell : ℕ) : Type 0 where
  pub box : LinkBox
  pub is_box : slice_get boxes k ≡ Some box
  pub near : IsNearBox grid (piece_of box p n).x (piece_of box p n).y cell far

-- the cell is at most `far` units from the box of one of the pieces from `first` on and below `end` of n of link k
abbrev pub IsNearRun : Layout → List LinkBox → ℕ → ℕ → ℕ → ℕ → ℕ → ℕ → Type 0
IsNearRun grid boxes k n far first end = Among first end (IsNearPiece grid boxes k n far)

-- link k is cut in n pieces, and a cell is near one where it is at most the link's radius and the pad from it
pub record IsLinkCut (grid : Layout) (links : List Link) (pad k n far : ℕ) : Type 0 where
  pub link : Link
  pub is_link : slice_get links k ≡ Some link
  pub count : n ≡ pieces_of link.len grid.side
  pub some : 1 ≤ n
  pub reach : far ≡ link.radius + pad
