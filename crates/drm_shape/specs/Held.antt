-- Which points a shape holds.
use Rattle.std.specs.Prelude.{ℕ, ◌<◌, ℤ, pos, ◌+ℤ◌, ◌-ℤ◌, ◌*ℤ◌, ◌≤ℤ◌}
use Rattle.drm_shape.specs.Corners.{corner_count, corner_at, next_of, turn_to}
use Rattle.drm_shape.specs.declared.Shape.{Shape}
use Rattle.drm_shape.specs.declared.Shape.TheVariants.{Rect, Disc, Poly}

-- the shape holds the point (x/d, y/d), where d is above 0: a box where it is within the four bounds, a disc where the
-- squared distance from the centre is at most the squared radius, and a ring where no side has it strictly on its right
abbrev pub Holds : Shape → ℤ → ℤ → ℤ → Type 0
Holds (Rect x0 y0 x1 y1) x y d = ((x0 *ℤ d) ≤ℤ x) × (x ≤ℤ (x1 *ℤ d)) × ((y0 *ℤ d) ≤ℤ y) × (y ≤ℤ (y1 *ℤ d))
Holds (Disc cx cy r) x y d =
    (((x -ℤ (cx *ℤ d)) *ℤ (x -ℤ (cx *ℤ d))) +ℤ ((y -ℤ (cy *ℤ d)) *ℤ (y -ℤ (cy *ℤ d)))) ≤ℤ ((pos r *ℤ d) *ℤ (pos r *ℤ d))
Holds (Poly ring) x y d = (i : ℕ) → i < corner_count ring → pos 0 ≤ℤ turn_to (corner_at ring i) (corner_at ring (next_of ring i)) x y d
