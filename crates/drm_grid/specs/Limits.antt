-- The limits of grids.
use Rattle.std.specs.Prelude.{ℕ}

-- the least and the greatest side of a cell, in workspace units
abbrev pub least_side : ℕ
least_side = 128

abbrev pub greatest_side : ℕ
greatest_side = 1024

-- a side is a multiple of this number of units
abbrev pub side_step : ℕ
side_step = 8

-- the least and the greatest number of rows
abbrev pub least_rows : ℕ
least_rows = 2

abbrev pub greatest_rows : ℕ
greatest_rows = 128

-- the greatest distance that is asked of a cell and a box, in workspace units
abbrev pub greatest_distance : ℕ
greatest_distance = 2048
