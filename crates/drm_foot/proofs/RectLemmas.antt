-- A box and a closed cell share a point where the box reaches the column and the row of the cell.
use Rattle.std.proofs.Common.{ℕ, ◌+◌, ◌<◌, arith}
use Rattle.std.specs.Prelude.{ℤ, pos, ◌*ℤ◌, ◌≤ℤ◌, ◌<ℤ◌}
use Rattle.std.specs.Int.{int_max}
use Rattle.std.proofs.lemmas.Int.{ints, clamps}
use Rattle.drm_grid.specs.Strips.{MeetsStrip}
use Rattle.drm_grid.specs.Layout.{Layout, cell_count, line_at, row_of, column_of}
use Rattle.drm_shape.specs.declared.Shape.TheVariants.{Rect}
use Rattle.drm_shape.specs.Validity.{IsValid}
use Rattle.drm_grid.proofs.StripLemmas.{line_at-next}
use Rattle.drm_foot.specs.Foot.{SharesPoint}
use Rattle.drm_num.proofs.Integers.{cancels_right}

-- x is in both closed intervals, as a fraction over 1
record IsCommon (low high left right x : ℤ) : Type 0 where
  from_left : (left *ℤ pos 1) ≤ℤ x
  to_right : x ≤ℤ (right *ℤ pos 1)
  from_low : (low *ℤ pos 1) ≤ℤ x
  to_high : x ≤ℤ (high *ℤ pos 1)

-- two closed intervals that reach each other have the greater of their starts in common
common : (low high left right : ℤ) → low ≤ℤ high → left ≤ℤ right → low ≤ℤ right → left ≤ℤ high → IsCommon low high left right (int_max low left)
common low high left right a b c d = record {
  from_left = omega (arith, ints, clamps);
  to_right = omega (arith, ints, clamps);
  from_low = omega (arith, ints, clamps);
  to_high = omega (arith, ints, clamps);
}

-- a start is at most an end where a point lies between them
reaches_each : (low right d x : ℤ) → pos 0 <ℤ d → (low *ℤ d) ≤ℤ x → x ≤ℤ (right *ℤ d) → low ≤ℤ right
reaches_each low right d x positive a b = cancels_right d positive (omega (arith, ints))

-- a valid box shares a point with a cell whose column and row it reaches
pub from_reached : (grid : Layout) (x0 y0 x1 y1 : ℤ) (cell : ℕ) → cell < cell_count grid → IsValid (Rect x0 y0 x1 y1)
    → MeetsStrip grid x0 x1 (column_of grid cell) → MeetsStrip grid y0 y1 (row_of grid cell) → SharesPoint grid (Rect x0 y0 x1 y1) cell
from_reached grid x0 y0 x1 y1 cell in_grid valid columns rows =
    let column = column_of grid cell in
    let row = row_of grid cell in
    let across = common x0 x1 (line_at grid column) (line_at grid (column + 1)) valid.ordered.0 (line_at-next grid column) columns.starts columns.ends in
    let up = common y0 y1 (line_at grid row) (line_at grid (row + 1)) valid.ordered.1 (line_at-next grid row) rows.starts rows.ends in (
      int_max x0 (line_at grid column),
      int_max y0 (line_at grid row),
      pos 1,
      record {
        in_grid = in_grid;
        positive = omega (arith, ints);
        in_cell = record { left = across.from_left; right = across.to_right; bottom = up.from_left; top = up.to_right };
        in_shape = (across.from_low, across.to_high, up.from_low, up.to_high);
      },
    )

-- and it reaches the column and the row of each cell with which it shares a point
pub column_reached : (grid : Layout) (x0 y0 x1 y1 : ℤ) (cell : ℕ) → SharesPoint grid (Rect x0 y0 x1 y1) cell → MeetsStrip grid x0 x1 (column_of grid cell)
column_reached grid x0 y0 x1 y1 cell (x, y, d, point) = record {
  starts = reaches_each x0 (line_at grid (column_of grid cell + 1)) d x point.positive point.in_shape.0 point.in_cell.right;
  ends = reaches_each (line_at grid (column_of grid cell)) x1 d x point.positive point.in_cell.left point.in_shape.1;
}

pub row_reached : (grid : Layout) (x0 y0 x1 y1 : ℤ) (cell : ℕ) → SharesPoint grid (Rect x0 y0 x1 y1) cell → MeetsStrip grid y0 y1 (row_of grid cell)
row_reached grid x0 y0 x1 y1 cell (x, y, d, point) = record {
  starts = reaches_each y0 (line_at grid (row_of grid cell + 1)) d y point.positive point.in_shape.2 point.in_cell.top;
  ends = reaches_each (line_at grid (row_of grid cell)) y1 d y point.positive point.in_cell.bottom point.in_shape.3;
}
