-- Where the links of an arm are, in whole numbers over one denominator.
use Rattle.std.specs.Prelude.{ℕ, ℤ, pos, ◌+ℤ◌, ◌-ℤ◌, ◌*ℤ◌, List, [], ◌∷◌, take, slice_get}
use Rattle.std.specs.Option.{unwrap_or}

-- a joint and its link: the link's length, and the numerator of the tangent of half the joint's angle
pub record Joint : Type 0 where
  pub len : ℤ
  pub n : ℤ

-- a point of the plane: (x, y) / d
pub record Point : Type 0 where
  pub x : ℤ
  pub y : ℤ
  pub d : ℤ

-- the last link so far: its direction (x, y) / d, and its end (px, py) / d
pub record Chain : Type 0 where
  pub x : ℤ
  pub y : ℤ
  pub d : ℤ
  pub px : ℤ
  pub py : ℤ

-- before the first joint: the direction of the first axis, at the origin
abbrev pub base : Chain
base = record { x = pos 1; y = pos 0; d = pos 1; px = pos 0; py = pos 0 }

-- a joint whose tangent is n / d turns by the cosine (d² - n²) / (d² + n²) and the sine 2dn / (d² + n²)
abbrev pub cosine_top : ℤ → ℤ → ℤ
cosine_top d n = (d *ℤ d) -ℤ (n *ℤ n)

abbrev pub sine_top : ℤ → ℤ → ℤ
sine_top d n = pos 2 *ℤ (n *ℤ d)

abbrev pub turn_bottom : ℤ → ℤ → ℤ
turn_bottom d n = (d *ℤ d) +ℤ (n *ℤ n)

-- the direction after the joint, whose tangent has the denominator d
abbrev pub turned_x : ℤ → Chain → Joint → ℤ
turned_x d c j = (c.x *ℤ cosine_top d j.n) -ℤ (c.y *ℤ sine_top d j.n)

abbrev pub turned_y : ℤ → Chain → Joint → ℤ
turned_y d c j = (c.x *ℤ sine_top d j.n) +ℤ (c.y *ℤ cosine_top d j.n)

-- the chain with one more joint and link
abbrev pub turned : ℤ → Chain → Joint → Chain
turned d c j = record {
  x = turned_x d c j;
  y = turned_y d c j;
  d = c.d *ℤ turn_bottom d j.n;
  px = (turn_bottom d j.n *ℤ c.px) +ℤ (j.len *ℤ turned_x d c j);
  py = (turn_bottom d j.n *ℤ c.py) +ℤ (j.len *ℤ turned_y d c j);
}

-- the chain after the joints, one after the other
abbrev pub chain_from : ℤ → Chain → List Joint → Chain
chain_from d c [] = c
chain_from d c (j ∷ js) = chain_from d (turned d c j) js

-- the chain of an arm with these joints
abbrev pub chain_of : ℤ → List Joint → Chain
chain_of d joints = chain_from d base joints

-- the point at the fraction e / f of the axis of the joint's link, where the chain ends at the joint
abbrev pub axis_point : ℤ → Chain → Joint → ℕ → ℕ → Point
axis_point d c j e f = record {
  x = (pos f *ℤ (turn_bottom d j.n *ℤ c.px)) +ℤ (pos e *ℤ (j.len *ℤ turned_x d c j));
  y = (pos f *ℤ (turn_bottom d j.n *ℤ c.py)) +ℤ (pos e *ℤ (j.len *ℤ turned_y d c j));
  d = pos f *ℤ (c.d *ℤ turn_bottom d j.n);
}

-- the joint with this number; past the last, one whose link has no length
abbrev pub joint_of : List Joint → ℕ → Joint
joint_of joints k = unwrap_or (slice_get joints k) (record { len = pos 0; n = pos 0 })

-- the point at the fraction e / f of the axis of link k, of the arm with these joints
abbrev pub axis_of : ℤ → List Joint → ℕ → ℕ → ℕ → Point
axis_of d joints k e f = axis_point d (chain_of d (take k joints)) (joint_of joints k) e f
