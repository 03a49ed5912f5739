-- The grid of workspace cells: N rows and N columns of closed squares, centred on the base at (0, 0).
use Rattle.std.specs.Prelude.{ℕ, ◌≡◌, ◌≤◌, ◌*◌, ◌/◌, ◌%◌, ◌^◌, ◌-◌, ℤ, pos, ◌-ℤ◌, ◌*ℤ◌, ◌≤ℤ◌, ◌+◌}
use Rattle.drm_grid.specs.Limits.{least_side, greatest_side, side_step, least_rows, greatest_rows}

-- the side of a cell, in workspace units, and the number of rows and of columns
pub record Layout : Type 0 where
  pub side : ℕ
  pub n : ℕ

-- a side that a grid may have
pub record IsSide (side : ℕ) : Type 0 where
  pub least : least_side ≤ side
  pub most : side ≤ greatest_side
  pub by_eight : side % side_step ≡ 0

-- a number of rows that a grid may have
pub record IsRowCount (n : ℕ) : Type 0 where
  pub least : least_rows ≤ n
  pub most : n ≤ greatest_rows
  pub even : n % 2 ≡ 0

-- a grid within the limits
pub record IsGrid (grid : Layout) : Type 0 where
  pub side : IsSide grid.side
  pub n : IsRowCount grid.n

-- 2^40 / side, rounded up
abbrev pub reciprocal_of : ℕ → ℕ
reciprocal_of side = (2 ^ 40 - 1) / side + 1

-- how many cells there are; they are numbered row by row, from the least y and x
abbrev pub cell_count : Layout → ℕ
cell_count grid = grid.n * grid.n

-- how far the grid reaches from the base to each side, in workspace units
abbrev pub half_side : Layout → ℕ
half_side grid = grid.side * (grid.n / 2)

-- the line before the k-th row or column
abbrev pub line_at : Layout → ℕ → ℤ
line_at grid k = (pos k -ℤ pos (grid.n / 2)) *ℤ pos grid.side

abbrev pub row_of : Layout → ℕ → ℕ
row_of grid cell = cell / grid.n

abbrev pub column_of : Layout → ℕ → ℕ
column_of grid cell = cell % grid.n

-- the point (x/d, y/d), where d is above 0, lies in the closed square of the cell
pub record IsInCell (grid : Layout) (cell : ℕ) (x y d : ℤ) : Type 0 where
  pub left : (line_at grid (column_of grid cell) *ℤ d) ≤ℤ x
  pub right : x ≤ℤ (line_at grid (column_of grid cell + 1) *ℤ d)
  pub bottom : (line_at grid (row_of grid cell) *ℤ d) ≤ℤ y
  pub top : y ≤ℤ (line_at grid (row_of grid cell + 1) *ℤ d)
