-- Laws of footprints.
use Rattle.std.specs.Prelude.{ℕ, ◌<◌, ℤ, pos, ◌<ℤ◌}
use Rattle.drm_grid.specs.Layout.{Layout, IsInCell, cell_count}
use Rattle.drm_shape.specs.declared.Shape.{Shape}
use Rattle.drm_shape.specs.Held.{Holds}
use Rattle.drm_shape.specs.Validity.{IsValid}
use Rattle.drm_foot.specs.Foot.{Foot}

-- a cell that holds a point which a valid shape holds is in the footprint of the shape
abbrev pub HeldPointsAreInFoot : Type 0
HeldPointsAreInFoot =
    (grid : Layout) (shape : Shape) (cell : ℕ) (x y d : ℤ)
    → cell < cell_count grid → IsValid shape → pos 0 <ℤ d → IsInCell grid cell x y d → Holds shape x y d → Foot grid shape cell
