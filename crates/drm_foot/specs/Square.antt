-- A cell of a grid, and the lines around it.
use Rattle.std.specs.Prelude.{ℕ, ◌+◌, ◌≡◌, ◌<◌, ℤ, pos}
use Rattle.drm_num.specs.Small.{IsSmall}
use Rattle.drm_grid.specs.Layout.{Layout, cell_count, line_at, column_of, row_of}

-- a cell by its number, with its grid
pub record Square : Type 0 where
  pub grid : Layout
  pub cell : ℕ

-- the cell is one of the grid's, and these are the lines around it, which are at most 65,536 units from the middle
pub record AreBounds (square : Square) (left right bottom top : ℤ) : Type 0 where
  pub in_grid : square.cell < cell_count square.grid
  pub on_left : left ≡ line_at square.grid (column_of square.grid square.cell)
  pub on_right : right ≡ line_at square.grid (column_of square.grid square.cell + 1)
  pub on_bottom : bottom ≡ line_at square.grid (row_of square.grid square.cell)
  pub on_top : top ≡ line_at square.grid (row_of square.grid square.cell + 1)
  pub left_small : IsSmall (pos 65536) left
  pub right_small : IsSmall (pos 65536) right
  pub bottom_small : IsSmall (pos 65536) bottom
  pub top_small : IsSmall (pos 65536) top
