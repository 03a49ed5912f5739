-- Which lists of links are arms, and the first rule that a list breaks.
use Rattle.std.specs.Prelude.{◌≡◌, ℕ, ◌≤◌, pos, ◌≤ℤ◌, int_le, Bool, ◌&&◌, nat_le, IsTrue, List, [], ◌∷◌, length, All, sum_by, slice_get, Option, Some}
use Rattle.drm_num.specs.FirstBroken.{unless, broken_at, first_of}
use Rattle.drm_arm.specs.declared.arm.Link.{Link}
use Rattle.drm_arm.specs.declared.arm.ArmFault.{ArmFault}
use Rattle.drm_arm.specs.declared.arm.ArmFault.TheVariants.{Count, Length, Radius, Limits, Reach}
use Rattle.drm_arm.specs.Limits.{max_links, max_length, max_radius, max_reach, min_coordinate, max_coordinate}

-- what stands in the places of an arm's store that hold no link
abbrev pub no_link : Link
no_link = record { len = 0; radius = 0; lo = pos 0; hi = pos 0 }

-- the number of links is 1 to 6
abbrev pub has_count : List Link → Bool
has_count links = nat_le 1 (length links) && nat_le (length links) max_links

-- the length is 1 to 4,096
abbrev pub has_length : Link → Bool
has_length link = nat_le 1 link.len && nat_le link.len max_length

-- the radius is 0 to 512
abbrev pub has_radius : Link → Bool
has_radius link = nat_le link.radius max_radius

-- the joint's limits lie between -4,096 and 4,096, and the least is not above the greatest
abbrev pub has_limits : Link → Bool
has_limits link = int_le min_coordinate link.lo && int_le link.hi max_coordinate && int_le link.lo link.hi

-- the sum of the lengths
abbrev pub reach_of : List Link → ℕ
reach_of links = sum_by (λ link. link.len) links

-- the first rule that the links break, with the number found, or none: each rule is tested over all links before the next
abbrev pub arm_fault : List Link → Option ArmFault
arm_fault links =
    first_of (unless (has_count links) (Count (length links))
    ∷ broken_at Length has_length links
    ∷ broken_at Radius has_radius links
    ∷ broken_at Limits has_limits links
    ∷ unless (nat_le (reach_of links) max_reach) (Reach (reach_of links))
    ∷ [])

-- the list is an arm: 1 to 6 links, each within its limits, which together reach no further than 4,096
pub record IsArm (links : List Link) : Type 0 where
  pub some : 1 ≤ length links
  pub few : length links ≤ max_links
  pub lengths : All (λ link. IsTrue (has_length link)) links
  pub radii : All (λ link. IsTrue (has_radius link)) links
  pub limits : All (λ link. IsTrue (has_limits link)) links
  pub reach : reach_of links ≤ max_reach

-- the link is within the limits that a link of an arm keeps
pub record IsLink (link : Link) : Type 0 where
  pub some : 1 ≤ link.len
  pub short : link.len ≤ max_length
  pub thin : link.radius ≤ max_radius
  pub least : min_coordinate ≤ℤ link.lo
  pub greatest : link.hi ≤ℤ max_coordinate
  pub ordered : link.lo ≤ℤ link.hi

-- each link of an arm is within these limits
abbrev pub LinksAreWithinLimits : Type 0
LinksAreWithinLimits = (links : List Link) (k : ℕ) (link : Link) → IsArm links → slice_get links k ≡ Some link → IsLink link
