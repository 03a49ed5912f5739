-- Which cells no side of a ring, and no side of the cell, separates from the ring.
use Rattle.std.specs.Prelude.{ℕ, ◌+◌, ◌<◌, ℤ, pos, ◌<ℤ◌, List}
use Rattle.drm_grid.specs.Layout.{Layout, cell_count, line_at, row_of, column_of}
use Rattle.drm_shape.specs.Corners.{Corner, corner_count, corner_at, next_of, turn}

-- the point where two lines of the grid cross
abbrev pub crossing : Layout → ℕ → ℕ → Corner
crossing grid across up = record { x = line_at grid across; y = line_at grid up }

-- the point is strictly on the right of the ring's i-th side
abbrev pub IsOnRight : List ℤ → ℕ → Corner → Type 0
IsOnRight ring i point = turn (corner_at ring i) (corner_at ring (next_of ring i)) point <ℤ pos 0

-- all four corners of the cell are strictly on the right of the ring's i-th side
pub record HasCellOnRight (grid : Layout) (ring : List ℤ) (cell i : ℕ) : Type 0 where
  pub low_left : IsOnRight ring i (crossing grid (column_of grid cell) (row_of grid cell))
  pub low_right : IsOnRight ring i (crossing grid (column_of grid cell + 1) (row_of grid cell))
  pub high_left : IsOnRight ring i (crossing grid (column_of grid cell) (row_of grid cell + 1))
  pub high_right : IsOnRight ring i (crossing grid (column_of grid cell + 1) (row_of grid cell + 1))

-- no side of the ring has all four corners of the cell strictly on its right
abbrev pub IsUnseparatedByRing : Layout → List ℤ → ℕ → Type 0
IsUnseparatedByRing grid ring cell = (i : ℕ) → i < corner_count ring → HasCellOnRight grid ring cell i → ⊥

-- all corners of the ring are strictly beyond the left, the right, the lower or the upper side of the cell
abbrev pub IsLeftOf : Layout → List ℤ → ℕ → Type 0
IsLeftOf grid ring cell = (i : ℕ) → i < corner_count ring → (corner_at ring i).x <ℤ line_at grid (column_of grid cell)

abbrev pub IsRightOf : Layout → List ℤ → ℕ → Type 0
IsRightOf grid ring cell = (i : ℕ) → i < corner_count ring → line_at grid (column_of grid cell + 1) <ℤ (corner_at ring i).x

abbrev pub IsBelow : Layout → List ℤ → ℕ → Type 0
IsBelow grid ring cell = (i : ℕ) → i < corner_count ring → (corner_at ring i).y <ℤ line_at grid (row_of grid cell)

abbrev pub IsAbove : Layout → List ℤ → ℕ → Type 0
IsAbove grid ring cell = (i : ℕ) → i < corner_count ring → line_at grid (row_of grid cell + 1) <ℤ (corner_at ring i).y

-- no side of the ring and no side of the cell separates the two
pub record IsUnseparated (grid : Layout) (ring : List ℤ) (cell : ℕ) : Type 0 where
  pub in_grid : cell < cell_count grid
  pub by_ring : IsUnseparatedByRing grid ring cell
  pub by_left : IsLeftOf grid ring cell → ⊥
  pub by_right : IsRightOf grid ring cell → ⊥
  pub by_bottom : IsBelow grid ring cell → ⊥
  pub by_top : IsAbove grid ring cell → ⊥
