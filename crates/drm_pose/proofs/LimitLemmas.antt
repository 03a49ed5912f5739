-- The coordinates of a configuration are within the limits of every arm.
use Rattle.std.proofs.Common.{◌≡◌, ℕ, ◌<◌, ℤ, pos, neg_ℤ, true, ◌&&◌, IsTrue, List, length, get_or, slice_get, Some, int_le, subst, arith}
use Rattle.std.specs.List.{zip}
use Rattle.std.proofs.lemmas.Int.{ints}
use Rattle.std.proofs.lemmas.Option.{slice_get_within, get_or_from_slice_get}
use Rattle.std.proofs.lemmas.Slice.Zip.{length-zip, get_or-zip}
use Rattle.drm_arm.specs.declared.arm.Link.{Link}
use Rattle.drm_arm.specs.Arm.{IsArm, no_link, has_limits}
use Rattle.drm_arm.specs.Config.{IsConfig, allows}
use Rattle.drm_num.specs.Small.{IsSmall}

-- a number between limits that are between -4,096 and 4,096
between_limits : (lo hi v : ℤ) → (int_le (neg_ℤ (pos 4096)) lo && int_le hi (pos 4096) && int_le lo hi) ≡ true → (int_le lo v && int_le v hi) ≡ true → IsSmall (pos 4096) v
between_limits lo hi v h k = record { low = grind (arith, ints); high = grind (arith, ints) }

-- the coordinate of a joint of a configuration
pub coordinate_small : (links : List Link) (values : List ℤ) (k : ℕ) (a : ℤ) → IsArm links → IsConfig links values → slice_get values k ≡ Some a → IsSmall (pos 4096) a
coordinate_small links values k a arm config is_value =
    let in_values : k < length values = slice_get_within values k a is_value in
    let in_links : k < length links = omega (arith, config.counted) in
    let in_zip : k < length (zip links values) = omega (arith, length-zip links values, config.counted) in
    let limits : IsTrue (has_limits (get_or links k no_link)) = arm.limits k no_link in_links in
    let pair : get_or (zip links values) k (no_link, a) ≡ (get_or links k no_link, get_or values k a) = get_or-zip links values k (no_link, a) in_links in_values in
    let within : IsTrue (allows (get_or links k no_link) (get_or values k a)) =
    subst (λ (p : Link × ℤ). IsTrue (allows p.0 p.1)) pair (config.within k (no_link, a) in_zip) in
    let value : get_or values k a ≡ a = get_or_from_slice_get values k a a is_value in
    let link = get_or links k no_link in
    between_limits link.lo link.hi a limits (subst (λ (v : ℤ). IsTrue (allows link v)) value within)
