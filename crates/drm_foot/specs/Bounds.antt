-- The bounds of a shape, and the cells that they reach.
use Rattle.std.specs.Prelude.{ℕ, ◌≡◌, ◌<◌, ℤ, pos, ◌+ℤ◌, ◌-ℤ◌, ◌≤ℤ◌}
use Rattle.drm_grid.specs.Layout.{Layout, column_of, row_of}
use Rattle.drm_grid.specs.Strips.{MeetsStrip}
use Rattle.drm_shape.specs.Corners.{corner_count, corner_at}
use Rattle.drm_shape.specs.declared.Shape.{Shape}
use Rattle.drm_shape.specs.declared.Shape.TheVariants.{Rect, Disc, Poly}
use Rattle.drm_foot.specs.declared.bounds.Bounds.{Bounds}

-- low and high are the least and the greatest of the first `count` numbers
pub record IsSpan (count : ℕ) (at : ℕ → ℤ) (low high : ℤ) : Type 0 where
  pub least : (i : ℕ) → i < count → low ≤ℤ at i
  pub most : (i : ℕ) → i < count → at i ≤ℤ high
  pub has_least : (i : ℕ) × (i < count) × (at i ≡ low)
  pub has_most : (i : ℕ) × (i < count) × (at i ≡ high)

-- the least and the greatest coordinates of the shape's points: for a ring, of its corners
abbrev pub IsBoundsOf : Shape → Bounds → Type 0
IsBoundsOf (Rect x0 y0 x1 y1) bounds = bounds ≡ record { x0 = x0; y0 = y0; x1 = x1; y1 = y1 }
IsBoundsOf (Disc x y r) bounds = bounds ≡ record { x0 = x -ℤ pos r; y0 = y -ℤ pos r; x1 = x +ℤ pos r; y1 = y +ℤ pos r }
IsBoundsOf (Poly ring) bounds =
    IsSpan (corner_count ring) (λ i. (corner_at ring i).x) bounds.x0 bounds.x1 × IsSpan (corner_count ring) (λ i. (corner_at ring i).y) bounds.y0 bounds.y1

-- the bounds meet the column and the row of the cell
abbrev pub ReachesCell : Layout → Bounds → ℕ → Type 0
ReachesCell grid bounds cell = MeetsStrip grid bounds.x0 bounds.x1 (column_of grid cell) × MeetsStrip grid bounds.y0 bounds.y1 (row_of grid cell)
