-- Moments of a motion, and where its joints are at a moment.
use Rattle.std.specs.Prelude.{ℕ, ◌+◌, ◌*◌, ◌^◌, ◌≤◌, ℤ, pos, ◌+ℤ◌, ◌-ℤ◌, ◌*ℤ◌, List, [], ◌∷◌}
use Rattle.drm_arm.specs.declared.arm.Link.{Link}
use Rattle.drm_arm.specs.declared.config.Motion.{Motion}
use Rattle.drm_pose.specs.Chain.{Joint, Point, axis_of}

-- the fraction `part / whole` of a motion
pub record Moment : Type 0 where
  pub part : ℕ
  pub whole : ℕ

-- the fraction is one from 0 to 1
pub record IsMoment (m : Moment) : Type 0 where
  pub proper : 1 ≤ m.whole
  pub bounded : m.part ≤ m.whole

-- the moment is one from `index / 2^depth` to `(index + 1) / 2^depth`
pub record IsInPiece (depth index : ℕ) (m : Moment) : Type 0 where
  pub moment : IsMoment m
  pub after : index * m.whole ≤ m.part * 2 ^ depth
  pub before : m.part * 2 ^ depth ≤ (index + 1) * m.whole

-- the denominator of every joint's half-angle tangent at the moment
abbrev pub denominator : Moment → ℤ
denominator m = pos (1024 * m.whole)

-- the numerator of a joint's half-angle tangent, where the joint goes from one coordinate to another
abbrev pub numerator : ℤ → ℤ → Moment → ℤ
numerator from to m = (from *ℤ (pos m.whole -ℤ pos m.part)) +ℤ (to *ℤ pos m.part)

-- the joints that go from the first coordinates to the second, at the moment
abbrev pub joints_between : List Link → List ℤ → List ℤ → Moment → List Joint
joints_between (link ∷ links) (a ∷ starts) (b ∷ ends) m = (record { len = pos link.len; n = numerator a b m }) ∷ joints_between links starts ends m
joints_between _ _ _ m = []

-- the joints of an arm at the moment of a motion
abbrev pub joints_at : List Link → Motion → Moment → List Joint
joints_at links motion m = joints_between links motion.from motion.to m

-- the point at the fraction e / f of the axis of link k, at the moment of a motion of the arm
abbrev pub axis_at : List Link → Motion → Moment → ℕ → ℕ → ℕ → Point
axis_at links motion m k e f = axis_of (denominator m) (joints_at links motion m) k e f
