-- What it means that boxes hold the links of an arm.
use Rattle.std.specs.Prelude.{◌≡◌, ℕ, ◌+◌, ◌*◌, ◌≤◌, ℤ, pos, ◌+ℤ◌, ◌*ℤ◌, ◌<ℤ◌, List, length, slice_get, take, Some}
use Rattle.drm_num.specs.Fraction.{Fraction}
use Rattle.drm_num.specs.Interval.{Lies}
use Rattle.drm_pose.specs.declared.boxes.Plate.{Plate}
use Rattle.drm_pose.specs.declared.boxes.LinkBox.{LinkBox}
use Rattle.drm_pose.specs.Chain.{Joint, Point, Chain, chain_of, turned}

-- the half-angle tangent n / d
abbrev pub tangent : ℤ → ℤ → Fraction
tangent d n = record { top = n; bottom = d }

-- the point lies in the box
pub record LiesIn (p : Point) (box : Plate) : Type 0 where
  pub x : Lies (record { top = p.x; bottom = p.d }) box.x
  pub y : Lies (record { top = p.y; bottom = p.d }) box.y

-- the direction of the last link of a chain, and the end of that link
abbrev pub direction_of : Chain → Point
direction_of c = record { x = c.x; y = c.y; d = c.d }

abbrev pub end_of : Chain → Point
end_of c = record { x = c.px; y = c.py; d = c.d }

-- the displacement from the base to the end of the link of one more joint
abbrev pub shift_of : ℤ → Chain → Joint → Point
shift_of d c j = record { x = j.len *ℤ (turned d c j).x; y = j.len *ℤ (turned d c j).y; d = (turned d c j).d }

-- the last link's direction has length one, and its denominator is above zero
pub record IsUnit (c : Chain) : Type 0 where
  pub proper : pos 0 <ℤ c.d
  pub unit_length : (c.x *ℤ c.x) +ℤ (c.y *ℤ c.y) ≡ c.d *ℤ c.d

-- the box holds a direction of length one
pub record HoldsDirection (box : Plate) : Type 0 where
  pub chain : Chain
  pub is_unit : IsUnit chain
  pub inside : LiesIn (direction_of chain) box

-- the boxes hold the direction, the two ends and the displacement of the link of one more joint
pub record HoldsLink (d : ℤ) (c : Chain) (j : Joint) (box : LinkBox) : Type 0 where
  pub direction : LiesIn (direction_of (turned d c j)) box.direction
  pub base : LiesIn (end_of c) box.base
  pub shift : LiesIn (shift_of d c j) box.shift
  pub tip : LiesIn (end_of (turned d c j)) box.tip

-- there is a list of boxes for each link, and each holds its link of the arm with these joints
pub record Encloses (boxes : List LinkBox) (d : ℤ) (joints : List Joint) : Type 0 where
  pub each : length boxes ≡ length joints
  pub holds : (k : ℕ) (j : Joint) (box : LinkBox) → slice_get joints k ≡ Some j → slice_get boxes k ≡ Some box → HoldsLink d (chain_of d (take k joints)) j box

-- e / f is a fraction from p / n to (p + 1) / n
pub record IsInPart (p n e f : ℕ) : Type 0 where
  pub proper : 1 ≤ f
  pub after : p * f ≤ e * n
  pub before : e * n ≤ (p + 1) * f
