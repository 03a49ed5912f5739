-- The footprint of an obstacle, and the cells that a set of obstacles occupies.
use Rattle.std.specs.Prelude.{ℕ, ◌<◌, ◌↔◌, Contains, List, ℤ, pos, ◌<ℤ◌}
use Rattle.drm_grid.specs.Layout.{Layout, IsInCell, cell_count}
use Rattle.drm_shape.specs.declared.Shape.{Shape}
use Rattle.drm_shape.specs.declared.Shape.TheVariants.{Rect, Disc, Poly}
use Rattle.drm_shape.specs.Held.{Holds}
use Rattle.drm_foot.specs.Separation.{IsUnseparated}
use Rattle.std.specs.List.Sorted.{IsStrictlyIncreasing}

-- the shape and the closed cell of the grid share the point (x/d, y/d)
pub record Shares (grid : Layout) (shape : Shape) (cell : ℕ) (x y d : ℤ) : Type 0 where
  pub in_grid : cell < cell_count grid
  pub positive : pos 0 <ℤ d
  pub in_cell : IsInCell grid cell x y d
  pub in_shape : Holds shape x y d

-- they share a point
abbrev pub SharesPoint : Layout → Shape → ℕ → Type 0
SharesPoint grid shape cell = (x : ℤ) × (y : ℤ) × (d : ℤ) × Shares grid shape cell x y d

-- the cell belongs to the footprint of the shape: a box or a disc shares a point with it, and a ring is separated from it
-- neither by a side of its own nor by a side of the cell
abbrev pub Foot : Layout → Shape → ℕ → Type 0
Foot grid (Rect x0 y0 x1 y1) cell = SharesPoint grid (Rect x0 y0 x1 y1) cell
Foot grid (Disc x y r) cell = SharesPoint grid (Disc x y r) cell
Foot grid (Poly ring) cell = IsUnseparated grid ring cell

-- the list is the footprint: exactly its cells, in increasing order
pub record IsFootprint (grid : Layout) (shape : Shape) (cells : List ℕ) : Type 0 where
  pub increasing : IsStrictlyIncreasing cells
  pub exact : (cell : ℕ) → Contains cells cell ↔ Foot grid shape cell

-- the cell is occupied by a set of shapes: it is in the footprint of one of them
abbrev pub IsOccupied : Layout → (Shape → Type 0) → ℕ → Type 0
IsOccupied grid stands cell = (shape : Shape) × stands shape × Foot grid shape cell
