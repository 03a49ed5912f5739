-- The sides of rings, and the boxes that are not wholly beyond them.
use Rattle.std.specs.Prelude.{ℕ, ◌<◌, ◌↔◌, ℤ, pos, neg_ℤ, ◌-ℤ◌, ◌*ℤ◌, ◌≤ℤ◌, List}
use Rattle.std.specs.Int.{int_min, int_max}
use Rattle.drm_num.specs.Small.{IsSmall}
use Rattle.drm_shape.specs.Corners.{Corner, corner_count, corner_at, next_of}
use Rattle.drm_foot.specs.declared.side.Side.{Side}
use Rattle.drm_foot.specs.declared.side.Span.{Span}

-- the side of a ring from its i-th corner to the next
abbrev pub side_from : Corner → Corner → Side
side_from a b = record { x = a.x; y = a.y; dx = b.x -ℤ a.x; dy = b.y -ℤ a.y }

abbrev pub side_at : List ℤ → ℕ → Side
side_at ring i = side_from (corner_at ring i) (corner_at ring (next_of ring i))

-- the side is one between corners within the limits
pub record IsSmallSide (side : Side) : Type 0 where
  pub x : IsSmall (pos 65536) side.x
  pub y : IsSmall (pos 65536) side.y
  pub dx : IsSmall (pos 131072) side.dx
  pub dy : IsSmall (pos 131072) side.dy

-- what a point's height between two lines adds to its turn at most, and what its place between two columns takes from it at least
abbrev pub lift : Side → ℤ → ℤ → ℤ
lift side bottom top = int_max (side.dx *ℤ (bottom -ℤ side.y)) (side.dx *ℤ (top -ℤ side.y))

abbrev pub fall : Side → ℤ → ℤ → ℤ
fall side left right = int_min (side.dy *ℤ (left -ℤ side.x)) (side.dy *ℤ (right -ℤ side.x))

-- the box from `left` to `right` and from `bottom` to `top` is not wholly beyond the side
abbrev pub IsNotBeyond : Side → ℤ → ℤ → ℤ → ℤ → Type 0
IsNotBeyond side bottom top left right = fall side left right ≤ℤ lift side bottom top

-- it is wholly beyond no side of the ring
abbrev pub IsBeyondNone : List ℤ → ℤ → ℤ → ℤ → ℤ → Type 0
IsBeyondNone ring bottom top left right =
    (i : ℕ) → i < corner_count ring → IsNotBeyond (side_at ring i) bottom top left right

-- the interval from `left` to `right` meets the span
abbrev pub IsMet : Span → ℤ → ℤ → Type 0
IsMet span left right = (span.low ≤ℤ right) × (left ≤ℤ span.high)

-- of the intervals on a grid, the narrow span meets those that the whole span meets and that are left to it
abbrev pub Narrows : Span → Span → (ℤ → ℤ → Type 0) → Type 0
Narrows whole narrow IsLeft =
    (left right : ℤ) → neg_ℤ (pos 65536) ≤ℤ left → left ≤ℤ right
    → IsMet narrow left right ↔ (IsMet whole left right × IsLeft left right)
