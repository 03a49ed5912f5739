-- Laws of turns: a smaller interval of half-angle tangents gives smaller intervals, with the rounding.
use Rattle.drm_num.specs.Interval.{Interval}
use Rattle.drm_num.specs.Inclusion.{IsIncluded}
use Rattle.drm_half.specs.Turned.{cosine_interval, sine_interval}

-- the cosines over a smaller interval lie in those over a larger one
abbrev pub CosinesKeepInclusion : Type 0
CosinesKeepInclusion = (small large : Interval) → IsIncluded small large → IsIncluded (cosine_interval small) (cosine_interval large)

-- and so do the sines
abbrev pub SinesKeepInclusion : Type 0
SinesKeepInclusion = (small large : Interval) → IsIncluded small large → IsIncluded (sine_interval small) (sine_interval large)
