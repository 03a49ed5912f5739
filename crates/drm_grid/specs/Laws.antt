-- Laws of cells and boxes.
use Rattle.std.specs.Prelude.{◌≡◌, ℕ, ◌+◌, ◌*◌, ◌<◌, ◌≤◌, ℤ, pos, ◌<ℤ◌, ◌≤ℤ◌, ◌+ℤ◌, ◌-ℤ◌, ◌*ℤ◌}
use Rattle.drm_num.specs.Interval.{Interval, Lies, IsOrdered}
use Rattle.drm_grid.specs.Layout.{Layout, IsGrid, IsInCell, cell_count, row_of, column_of, half_side}
use Rattle.drm_grid.specs.Strips.{IsStripNear}
use Rattle.drm_grid.specs.Near.{IsNearBox}

-- the point (x/d, y/d) of the plane and the point (u/e, v/e) are at most `far` units apart, by the squares
pub record AreWithin (x y d u v e : ℤ) (far : ℕ) : Type 0 where
  pub near :
      ((((x *ℤ e) -ℤ (u *ℤ d)) *ℤ ((x *ℤ e) -ℤ (u *ℤ d))) +ℤ (((y *ℤ e) -ℤ (v *ℤ d)) *ℤ ((y *ℤ e) -ℤ (v *ℤ d))))
      ≤ℤ ((pos far *ℤ (d *ℤ e)) *ℤ (pos far *ℤ (d *ℤ e)))

-- the point (x/d, y/d) of the closed cell and the point (u/e, v/e) of the box are at most `far` units apart
pub record AreNearPoints (grid : Layout) (across up : Interval) (cell far : ℕ) (x y d u v e : ℤ) : Type 0 where
  pub proper : pos 0 <ℤ d
  pub in_cell : IsInCell grid cell x y d
  pub in_box_across : Lies (record { top = u; bottom = e }) across
  pub in_box_up : Lies (record { top = v; bottom = e }) up
  pub within : AreWithin x y d u v e far

-- where a point of the closed cell is at most `far` from a point of the box, the cell is near the box
abbrev pub PointsNearMakeCellNear : Type 0
PointsNearMakeCellNear =
    (grid : Layout) (across up : Interval) (cell far : ℕ) (x y d u v e : ℤ) →
    AreNearPoints grid across up cell far x y d u v e → IsNearBox grid across up cell far

-- and where the cell is near the box, there are such points
abbrev pub CellNearHasPointsNear : Type 0
CellNearHasPointsNear =
    (grid : Layout) (across up : Interval) (cell far : ℕ) →
    IsOrdered across → IsOrdered up → IsNearBox grid across up cell far →
    (x : ℤ) × (y : ℤ) × (d : ℤ) × (u : ℤ) × (v : ℤ) × (e : ℤ) × AreNearPoints grid across up cell far x y d u v e

-- a near cell is in a column and in a row that are near
abbrev pub NearCellsAreInNearStrips : Type 0
NearCellsAreInNearStrips =
    (grid : Layout) (across up : Interval) (cell far : ℕ) → IsNearBox grid across up cell far →
    IsStripNear grid across far (column_of grid cell) × IsStripNear grid up far (row_of grid cell)

-- the cell at a row and a column is one of the grid, and is in that row and column
pub record IsAtPlace (grid : Layout) (i j cell : ℕ) : Type 0 where
  pub in_grid : cell < cell_count grid
  pub row : row_of grid cell ≡ i
  pub column : column_of grid cell ≡ j

-- at each row and column of a grid there is exactly the cell row * n + column
abbrev pub CellsAreAtPlaces : Type 0
CellsAreAtPlaces = (grid : Layout) (row column : ℕ) → row < grid.n → column < grid.n → IsAtPlace grid row column (row * grid.n + column)

-- each cell of a grid is at a row and a column
pub record HasPlace (grid : Layout) (cell : ℕ) : Type 0 where
  pub row : row_of grid cell < grid.n
  pub column : column_of grid cell < grid.n
  pub place : row_of grid cell * grid.n + column_of grid cell ≡ cell

abbrev pub CellsHavePlaces : Type 0
CellsHavePlaces = (grid : Layout) (cell : ℕ) → cell < cell_count grid → HasPlace grid cell

-- the point (x/d, y/d) lies in a cell of the grid
pub record IsInSomeCell (grid : Layout) (x y d : ℤ) : Type 0 where
  pub cell : ℕ
  pub in_grid : cell < cell_count grid
  pub inside : IsInCell grid cell x y d

-- a point that is no farther from the base than the grid's edge lies in a cell
abbrev pub PointsWithinAreInCells : Type 0
PointsWithinAreInCells =
    (grid : Layout) (far : ℕ) (x y d : ℤ) → IsGrid grid → far ≤ half_side grid → pos 0 <ℤ d
    → ((x *ℤ x) +ℤ (y *ℤ y)) ≤ℤ ((pos far *ℤ d) *ℤ (pos far *ℤ d)) → IsInSomeCell grid x y d
