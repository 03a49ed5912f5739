-- Which cells a side of a ring does not have wholly beyond it.
use Rattle.std.specs.Prelude.{◌+◌, ◌≤ℤ◌}
use Rattle.drm_grid.specs.Layout.{line_at, row_of, column_of}
use Rattle.drm_foot.specs.declared.side.Side.{Side}
use Rattle.drm_foot.specs.Sides.{lift, fall}
use Rattle.drm_foot.specs.Square.{Square}

-- a corner of the cell is on the left of the side, or on its line
abbrev pub IsReached : Square → Side → Type 0
IsReached square side =
    fall side (line_at square.grid (column_of square.grid square.cell)) (line_at square.grid (column_of square.grid square.cell + 1))
    ≤ℤ lift side (line_at square.grid (row_of square.grid square.cell)) (line_at square.grid (row_of square.grid square.cell + 1))
