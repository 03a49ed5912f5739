-- A half-angle tangent with its cosine and its sine.
use Rattle.std.specs.Prelude.{◌≡◌, ◌^◌, ℤ, pos}
use Rattle.drm_num.specs.Interval.{ulps}
use Rattle.drm_num.specs.Small.{IsSmall}
use Rattle.drm_half.specs.HalfAngle.{cosine, sine}
use Rattle.drm_half.specs.Turned.{ulps_below, ulps_above}

-- the cosine and the sine at a tangent of so many ulps, rounded down and up
abbrev pub cosine_under : ℤ → ℤ
cosine_under t = ulps_below (cosine (ulps t))

abbrev pub cosine_over : ℤ → ℤ
cosine_over t = ulps_above (cosine (ulps t))

abbrev pub sine_under : ℤ → ℤ
sine_under t = ulps_below (sine (ulps t))

abbrev pub sine_over : ℤ → ℤ
sine_over t = ulps_above (sine (ulps t))

-- the tangent is at most four from zero, and these are its cosine and its sine, rounded down and up
pub record IsEnd (tangent cosine_below cosine_above sine_below sine_above : ℤ) : Type 0 where
  pub small : IsSmall (pos (2 ^ 32)) tangent
  pub cosine_below_is : cosine_below ≡ cosine_under tangent
  pub cosine_above_is : cosine_above ≡ cosine_over tangent
  pub sine_below_is : sine_below ≡ sine_under tangent
  pub sine_above_is : sine_above ≡ sine_over tangent
