-- Which points of the plane a motion reaches.
use Rattle.std.specs.Prelude.{◌≡◌, ℕ, ◌+◌, ◌≤◌, pos, ◌+ℤ◌, ◌-ℤ◌, ◌*ℤ◌, ◌≤ℤ◌, ◌<ℤ◌, List, slice_get, Some}
use Rattle.drm_arm.specs.declared.arm.Link.{Link}
use Rattle.drm_arm.specs.declared.config.Motion.{Motion}
use Rattle.drm_pose.specs.Chain.{Point}
use Rattle.drm_pose.specs.Moment.{Moment, IsMoment, axis_at}

-- the points are at most `far` apart, by the squares
pub record AreNear (p q : Point) (far : ℕ) : Type 0 where
  pub near :
      ((((p.x *ℤ q.d) -ℤ (q.x *ℤ p.d)) *ℤ ((p.x *ℤ q.d) -ℤ (q.x *ℤ p.d))) +ℤ (((p.y *ℤ q.d) -ℤ (q.y *ℤ p.d)) *ℤ ((p.y *ℤ q.d) -ℤ (q.y *ℤ p.d))))
      ≤ℤ ((pos far *ℤ (p.d *ℤ q.d)) *ℤ (pos far *ℤ (p.d *ℤ q.d)))

-- at the moment of the motion, the arm of these links reaches the point q with the pad:
-- q is within the radius and the pad of a point of the axis of some link
pub record Reaches (links : List Link) (motion : Motion) (m : Moment) (pad : ℕ) (q : Point) : Type 0 where
  pub moment : IsMoment m
  pub proper : pos 0 <ℤ q.d
  pub k : ℕ
  pub link : Link
  pub e : ℕ
  pub f : ℕ
  pub is_link : slice_get links k ≡ Some link
  pub fraction : 1 ≤ f
  pub on_axis : e ≤ f
  pub near : AreNear q (axis_at links motion m k e f) (link.radius + pad)
