-- Which cells are near a box, by the gaps between the box and the cell.
use Rattle.std.specs.Prelude.{ℕ, ℤ, pos, ◌+ℤ◌, ◌*ℤ◌, ◌≤ℤ◌}
use Rattle.drm_num.specs.Interval.{Interval, unit}
use Rattle.drm_num.specs.Arithmetic.{gap}
use Rattle.drm_grid.specs.Layout.{Layout, row_of, column_of}
use Rattle.drm_grid.specs.Strips.{strip}

-- how far the cell is from the interval of x, and from that of y, in ulps
abbrev pub gap_across : Layout → Interval → ℕ → ℤ
gap_across grid x cell = gap x (strip grid (column_of grid cell))

abbrev pub gap_up : Layout → Interval → ℕ → ℤ
gap_up grid y cell = gap y (strip grid (row_of grid cell))

-- the closed cell is at most `far` units from the box of all points with x and y in the two intervals
pub record IsNearBox (grid : Layout) (x y : Interval) (cell far : ℕ) : Type 0 where
  pub near :
      ((gap_across grid x cell *ℤ gap_across grid x cell) +ℤ (gap_up grid y cell *ℤ gap_up grid y cell))
      ≤ℤ ((pos far *ℤ unit) *ℤ (pos far *ℤ unit))
