-- Intervals, whose two ends are whole numbers of ulps. One ulp is 2^-30.
use Rattle.std.specs.Prelude.{ℤ, pos, neg_ℤ, ◌*ℤ◌, ◌≤ℤ◌}
use Rattle.drm_num.specs.Fraction.{Fraction, IsProper}

-- one, in ulps
abbrev pub unit : ℤ
unit = pos 1073741824

-- a whole number of ulps, as a fraction
abbrev pub ulps : ℤ → Fraction
ulps a = record { top = a; bottom = unit }

-- the two ends, in ulps
pub record Interval : Type 0 where
  pub lo : ℤ
  pub hi : ℤ

-- the ends stand in order
abbrev pub IsOrdered : Interval → Type 0
IsOrdered s = s.lo ≤ℤ s.hi

-- both ends are at most `limit` ulps from zero
pub record EndsWithin (limit : ℤ) (s : Interval) : Type 0 where
  pub low : neg_ℤ limit ≤ℤ s.lo
  pub high : s.hi ≤ℤ limit

-- x is at least a ulps
abbrev pub IsAtLeastUlps : ℤ → Fraction → Type 0
IsAtLeastUlps a x = (a *ℤ x.bottom) ≤ℤ (unit *ℤ x.top)

-- x is at most a ulps
abbrev pub IsAtMostUlps : ℤ → Fraction → Type 0
IsAtMostUlps a x = (unit *ℤ x.top) ≤ℤ (a *ℤ x.bottom)

-- the number x lies in the interval
pub record Lies (x : Fraction) (s : Interval) : Type 0 where
  pub proper : IsProper x
  pub above : IsAtLeastUlps s.lo x
  pub below : IsAtMostUlps s.hi x

-- some number lies in both intervals
pub record Meets (a b : Interval) : Type 0 where
  pub common : Fraction
  pub in_first : Lies common a
  pub in_second : Lies common b

-- neither interval lies wholly above the other
pub record Overlaps (a b : Interval) : Type 0 where
  pub first : a.lo ≤ℤ b.hi
  pub second : b.lo ≤ℤ a.hi
