-- Which shapes are valid, and which rule a shape breaks first.
use Rattle.std.specs.Prelude.{ℕ, ◌≡◌, ◌<◌, ◌≤◌, ⊤, ℤ, pos, neg_ℤ, ◌<ℤ◌, ◌≤ℤ◌, int_lt, int_le, nat_le, nat_eq, Bool, true, not, ◌&&◌, ◌||◌, List, [], ◌∷◌, All, is_none, position, Option, None}
use Rattle.std.specs.List.{list_all, range_with_len}
use Rattle.drm_num.specs.FirstBroken.{unless, broken_at, first_of}
use Rattle.drm_shape.specs.Limits.{farthest, greatest_radius}
use Rattle.drm_shape.specs.Corners.{IsRing, corner_count, corner_at, next_of, turn}
use Rattle.drm_shape.specs.declared.Shape.{Shape}
use Rattle.drm_shape.specs.declared.Shape.TheVariants.{Rect, Disc, Poly}
use Rattle.drm_shape.specs.declared.ShapeFault.{ShapeFault}
use Rattle.drm_shape.specs.declared.ShapeFault.TheVariants.{Range, Order, Radius, Turn}

-- a coordinate within the limits
pub record IsCoordinate (z : ℤ) : Type 0 where
  pub above : neg_ℤ farthest ≤ℤ z
  pub below : z ≤ℤ farthest

-- every coordinate is within the limits
abbrev pub IsInRange : Shape → Type 0
IsInRange (Rect x0 y0 x1 y1) = IsCoordinate x0 × IsCoordinate y0 × IsCoordinate x1 × IsCoordinate y1
IsInRange (Disc x y r) = IsCoordinate x × IsCoordinate y
IsInRange (Poly ring) = All IsCoordinate ring

-- no side of a box is on the wrong side of the opposite one
abbrev pub HasOrderedCorners : Shape → Type 0
HasOrderedCorners (Rect x0 y0 x1 y1) = (x0 ≤ℤ x1) × (y0 ≤ℤ y1)
HasOrderedCorners _ = ⊤

-- the radius of a disc is within the limit
abbrev pub HasRadius : Shape → Type 0
HasRadius (Disc x y r) = r ≤ greatest_radius
HasRadius _ = ⊤

-- the i-th side of the ring has every corner but its own two strictly on its left
abbrev pub HasOthersOnLeft : List ℤ → ℕ → Type 0
HasOthersOnLeft ring i =
    (k : ℕ) → k < corner_count ring → (k ≡ i → ⊥) → (k ≡ next_of ring i → ⊥)
    → pos 0 <ℤ turn (corner_at ring i) (corner_at ring (next_of ring i)) (corner_at ring k)

-- each side of a ring does, so that it is strictly convex, counterclockwise, and goes round once
abbrev pub IsConvex : Shape → Type 0
IsConvex (Poly ring) = (i : ℕ) → i < corner_count ring → HasOthersOnLeft ring i
IsConvex _ = ⊤

-- a ring has 3 to 8 corners, as each ring of a program has
abbrev pub HasCorners : Shape → Type 0
HasCorners (Poly ring) = IsRing ring
HasCorners _ = ⊤

-- a shape that the planner takes
pub record IsValid (shape : Shape) : Type 0 where
  pub in_range : IsInRange shape
  pub ordered : HasOrderedCorners shape
  pub radius : HasRadius shape
  pub convex : IsConvex shape
  pub corners : HasCorners shape

-- the tests of these rules
abbrev pub is_coordinate : ℤ → Bool
is_coordinate z = int_le (neg_ℤ farthest) z && int_le z farthest

abbrev pub is_in_range : Shape → Bool
is_in_range (Rect x0 y0 x1 y1) = is_coordinate x0 && is_coordinate y0 && is_coordinate x1 && is_coordinate y1
is_in_range (Disc x y r) = is_coordinate x && is_coordinate y
is_in_range (Poly ring) = list_all is_coordinate ring

abbrev pub is_ordered : Shape → Bool
is_ordered (Rect x0 y0 x1 y1) = int_le x0 x1 && int_le y0 y1
is_ordered _ = true

abbrev pub has_radius : Shape → Bool
has_radius (Disc x y r) = nat_le r greatest_radius
has_radius _ = true

-- the k-th corner is an end of the i-th side, or strictly on its left
abbrev pub is_on_left : List ℤ → ℕ → ℕ → Bool
is_on_left ring i k = nat_eq k i || (nat_eq k (next_of ring i) || int_lt (pos 0) (turn (corner_at ring i) (corner_at ring (next_of ring i)) (corner_at ring k)))

-- no corner is elsewhere
abbrev pub turns_left : List ℤ → ℕ → Bool
turns_left ring i = is_none (position (λ k. not (is_on_left ring i k)) (range_with_len 0 (corner_count ring)))

-- the first side of the ring that has another corner not strictly on its left, or none
abbrev pub bad_side : List ℤ → Option ℕ
bad_side ring = position (λ i. not (turns_left ring i)) (range_with_len 0 (corner_count ring))

-- the fault that names that side
abbrev pub turn_fault : Shape → Option ShapeFault
turn_fault (Poly ring) = broken_at (λ i. Turn i) (turns_left ring) (range_with_len 0 (corner_count ring))
turn_fault _ = None

-- the first rule that the shape breaks, or none
abbrev pub shape_fault : Shape → Option ShapeFault
shape_fault shape =
    first_of (unless (is_in_range shape) Range ∷ unless (is_ordered shape) Order ∷ unless (has_radius shape) Radius ∷ turn_fault shape ∷ [])
