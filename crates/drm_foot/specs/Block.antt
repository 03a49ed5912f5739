-- Lists of cells that grow row by row.
use Rattle.std.specs.Prelude.{ℕ, ◌+◌, ◌*◌, ◌/◌, ◌<◌, ◌≤◌, ◌⊎◌, ◌↔◌, Contains, List}
use Rattle.std.specs.List.Sorted.{IsStrictlyIncreasing}
use Rattle.std.specs.declared.ops.Range.{Range}
use Rattle.drm_grid.specs.Layout.{Layout}
use Rattle.drm_grid.specs.Strips.{IsBetween, IsRangeUpTo}
use Rattle.drm_shape.specs.declared.Shape.{Shape}
use Rattle.drm_foot.specs.Foot.{Foot}

-- these are the columns of the row whose cells are in the footprint of the shape
pub record AreColumns (grid : Layout) (shape : Shape) (row : ℕ) (columns : Range ℕ) : Type 0 where
  pub within : IsRangeUpTo grid.n columns
  pub exact : (k : ℕ) → k < grid.n → Foot grid shape (row * grid.n + k) ↔ IsBetween columns k

-- the list has exactly the cells of the footprint in the rows before this one, in increasing order
pub record IsFootBefore (grid : Layout) (shape : Shape) (row : ℕ) (cells : List ℕ) : Type 0 where
  pub increasing : IsStrictlyIncreasing cells
  pub exact : (cell : ℕ) → Contains cells cell ↔ (Foot grid shape cell × (cell / grid.n < row))

-- the new list is increasing, and has the elements of the old one and the numbers from first up to end
pub record AddsRun (old new : List ℕ) (first end : ℕ) : Type 0 where
  pub increasing : IsStrictlyIncreasing new
  pub exact : (cell : ℕ) → Contains new cell ↔ (Contains old cell ⊎ ((first ≤ cell) × (cell < end)))
