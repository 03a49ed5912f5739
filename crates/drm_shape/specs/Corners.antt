-- Rings: closed polygons, given by the coordinates x and y of their corners in turn.
use Rattle.std.specs.Prelude.{ℕ, ◌≡◌, ◌+◌, ◌*◌, ◌/◌, ◌%◌, ◌≤◌, ℤ, pos, ◌-ℤ◌, ◌*ℤ◌, List, length, get_or}

-- a point with whole coordinates
pub record Corner : Type 0 where
  pub x : ℤ
  pub y : ℤ

-- the list has the coordinates of 3 to 8 corners
pub record IsRing (ring : List ℤ) : Type 0 where
  pub least : 6 ≤ length ring
  pub most : length ring ≤ 16
  pub paired : length ring % 2 ≡ 0

abbrev pub corner_count : List ℤ → ℕ
corner_count ring = length ring / 2

abbrev pub corner_at : List ℤ → ℕ → Corner
corner_at ring i = record { x = get_or ring (2 * i) (pos 0); y = get_or ring (2 * i + 1) (pos 0) }

-- the number of the corner after the i-th; the first one is after the last
abbrev pub next_of : List ℤ → ℕ → ℕ
next_of ring i = (i + 1) % corner_count ring

-- above 0 where c is strictly on the left of the line from a to b, below 0 where it is strictly on its right, and 0 where it is on it
abbrev pub turn : Corner → Corner → Corner → ℤ
turn a b c = ((b.x -ℤ a.x) *ℤ (c.y -ℤ a.y)) -ℤ ((b.y -ℤ a.y) *ℤ (c.x -ℤ a.x))

-- the same of the point (x/d, y/d), times d
abbrev pub turn_to : Corner → Corner → ℤ → ℤ → ℤ → ℤ
turn_to a b x y d = ((b.x -ℤ a.x) *ℤ (y -ℤ (a.y *ℤ d))) -ℤ ((b.y -ℤ a.y) *ℤ (x -ℤ (a.x *ℤ d)))
