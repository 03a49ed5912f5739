-- A shape on a grid, with the cells of its footprint.
use Rattle.std.specs.Prelude.{ℕ, List}
use Rattle.drm_grid.specs.Layout.{Layout, IsGrid}
use Rattle.drm_shape.specs.declared.Shape.{Shape}
use Rattle.drm_shape.specs.Validity.{IsValid}
use Rattle.drm_foot.specs.Foot.{IsFootprint}

-- a grid, a shape, and a list of cells
pub record Placed : Type 0 where
  pub grid : Layout
  pub shape : Shape
  pub cells : List ℕ

-- the grid and the shape are within their limits, and the cells are the footprint
pub record IsPlaced (placed : Placed) : Type 0 where
  pub grid : IsGrid placed.grid
  pub shape : IsValid placed.shape
  pub cells : IsFootprint placed.grid placed.shape placed.cells
