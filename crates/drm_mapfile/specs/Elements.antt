-- Coordinates that fit their field.
use Rattle.std.specs.Prelude.{◌≡◌, ℕ, ℤ, ◌≤ℤ◌, List, slice_get, Some}
use Rattle.drm_arm.specs.Limits.{min_coordinate, max_coordinate}

-- a coordinate within the limits of every arm
pub record IsShort (z : ℤ) : Type 0 where
  pub least : min_coordinate ≤ℤ z
  pub greatest : z ≤ℤ max_coordinate

-- each coordinate is
abbrev pub AreShort : List ℤ → Type 0
AreShort node = (j : ℕ) (z : ℤ) → slice_get node j ≡ Some z → IsShort z
