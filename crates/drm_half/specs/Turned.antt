-- The intervals of the cosine and the sine over an interval of half-angle tangents.
use Rattle.std.specs.Prelude.{Bool, ◌&&◌, if◌then◌else◌, ℤ, pos, neg_ℤ, ◌*ℤ◌, int_le}
use Rattle.std.specs.Int.{int_min, int_max}
use Rattle.drm_num.specs.Fraction.{Fraction}
use Rattle.drm_num.specs.Interval.{Interval, unit, ulps}
use Rattle.drm_num.specs.Quotient.{floor, ceiling}
use Rattle.drm_half.specs.HalfAngle.{cosine, sine}

-- the greatest whole number of ulps that is at most x
abbrev pub ulps_below : Fraction → ℤ
ulps_below x = floor (unit *ℤ x.top) x.bottom

-- the least whole number of ulps that is at least x
abbrev pub ulps_above : Fraction → ℤ
ulps_above x = ceiling (unit *ℤ x.top) x.bottom

-- the least |a| of the interval's numbers a, which is 0 where 0 is among them
abbrev pub least_size : Interval → ℤ
least_size t = int_max (int_max t.lo (neg_ℤ t.hi)) (pos 0)

-- the greatest |a| of the interval's numbers a
abbrev pub greatest_size : Interval → ℤ
greatest_size t = int_max (neg_ℤ t.lo) t.hi

-- a is among the interval's numbers
abbrev pub has_number : Interval → ℤ → Bool
has_number t a = int_le t.lo a && int_le a t.hi

-- the cosines: they are even, and fall with the size of the tangent
unfoldable pub cosine_interval : Interval → Interval
cosine_interval t = record {
  lo = ulps_below (cosine (ulps (greatest_size t)));
  hi = ulps_above (cosine (ulps (least_size t)));
}

-- the least sine: -1 where the tangent -1 is among them, else that of an end, rounded down
abbrev pub least_sine : Interval → ℤ
least_sine t = if has_number t (neg_ℤ unit) then neg_ℤ unit else int_min (ulps_below (sine (ulps t.lo))) (ulps_below (sine (ulps t.hi)))

-- the greatest sine: 1 where the tangent 1 is among them, else that of an end, rounded up
abbrev pub greatest_sine : Interval → ℤ
greatest_sine t = if has_number t unit then unit else int_max (ulps_above (sine (ulps t.lo))) (ulps_above (sine (ulps t.hi)))

-- the sines: they rise from the tangent -1 to 1, and fall outside
unfoldable pub sine_interval : Interval → Interval
sine_interval t = record { lo = least_sine t; hi = greatest_sine t }

-- the numbers from the lower to the upper
abbrev pub ordered : ℤ → ℤ → Interval
ordered low high = record { lo = low; hi = high }

-- the numbers between two
abbrev pub between : ℤ → ℤ → Interval
between a b = ordered (int_min a b) (int_max a b)
