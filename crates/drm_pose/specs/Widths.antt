-- How far boxes reach, and how wide they are.
use Rattle.std.specs.Prelude.{◌≡◌, ℕ, ◌*◌, ◌^◌, ℤ, pos, ◌≤ℤ◌, List, [], ◌∷◌, slice_get, Some}
use Rattle.drm_num.specs.Interval.{EndsWithin}
use Rattle.drm_num.specs.Arithmetic.{width}
use Rattle.drm_pose.specs.declared.boxes.Plate.{Plate}
use Rattle.drm_pose.specs.declared.boxes.LinkBox.{LinkBox}
use Rattle.drm_pose.specs.Boxes.{moved_box, spread_of}

-- each coordinate's ends are at most `limit` ulps from zero
pub record IsPlateWithin (limit : ℤ) (box : Plate) : Type 0 where
  pub x : EndsWithin limit box.x
  pub y : EndsWithin limit box.y

-- both coordinates of the box are at most w ulps wide
pub record IsNarrow (w : ℤ) (box : Plate) : Type 0 where
  pub x : width box.x ≤ℤ w
  pub y : width box.y ≤ℤ w

-- the second box holds the first
pub record IsInside (inner outer : Plate) : Type 0 where
  pub left : outer.x.lo ≤ℤ inner.x.lo
  pub right : inner.x.hi ≤ℤ outer.x.hi
  pub down : outer.y.lo ≤ℤ inner.y.lo
  pub up : inner.y.hi ≤ℤ outer.y.hi

-- each of the second link's boxes holds that of the first
pub record IsLinkInside (inner outer : LinkBox) : Type 0 where
  pub direction : IsInside inner.direction outer.direction
  pub base : IsInside inner.base outer.base
  pub shift : IsInside inner.shift outer.shift
  pub tip : IsInside inner.tip outer.tip

-- so for each link
abbrev pub IsPoseInside : List LinkBox → List LinkBox → Type 0
IsPoseInside inner outer =
    (k : ℕ) (small large : LinkBox) → slice_get inner k ≡ Some small → slice_get outer k ≡ Some large → IsLinkInside small large

-- the boxes of a link lie within 4,096 units, and its end is its base, moved by its displacement
pub record IsLinkBox (box : LinkBox) : Type 0 where
  pub base : IsPlateWithin (pos (2 ^ 42)) box.base
  pub shift : IsPlateWithin (pos (2 ^ 42)) box.shift
  pub tip : IsPlateWithin (pos (2 ^ 42)) box.tip
  pub moved : box.tip ≡ moved_box box.base box.shift

-- so for each link
abbrev pub IsPose : List LinkBox → Type 0
IsPose [] = Unit {0}
IsPose (box ∷ boxes) = IsLinkBox box × IsPose boxes

-- the pose is narrow enough for a grid with cells of this side: no joint point's box is wider than a sixteenth of the side
abbrev pub IsLeaf : ℕ → List LinkBox → Type 0
IsLeaf side boxes = spread_of boxes ≤ℤ pos (side * 2 ^ 26)
