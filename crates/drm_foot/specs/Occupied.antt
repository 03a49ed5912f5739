-- Sets of cells, and the cells that the shapes of a table of slots occupy.
use Rattle.std.specs.Prelude.{ℕ, Bool, ◌≡◌, ◌↔◌, List, length, Option, Some, Contains}
use Rattle.drm_shape.specs.declared.Shape.{Shape}
use Rattle.drm_grid.specs.Layout.{Layout}
use Rattle.drm_grid.specs.CellSet.{Has}
use Rattle.drm_foot.specs.Foot.{Foot, IsOccupied}

-- the set has exactly the cells with this property
pub record HasExactly (cells : ℕ) (P : ℕ → Type 0) (set : List Bool) : Type 0 where
  pub size : length set ≡ cells
  pub exact : (cell : ℕ) → Has set cell ↔ P cell

-- what the slot holds, if anything, has the cell in its footprint
abbrev pub Covers : Layout → Option Shape → ℕ → Type 0
Covers grid slot cell = (shape : Shape) × (slot ≡ Some shape) × Foot grid shape cell

-- the cell is occupied by a shape of the table
abbrev pub IsCovered : Layout → List (Option Shape) → ℕ → Type 0
IsCovered grid table cell = IsOccupied grid (λ shape. Contains table (Some shape)) cell
