-- What each operation on intervals gives, by the ends.
use Rattle.std.specs.Prelude.{ℤ, pos, neg_ℤ, ◌+ℤ◌, ◌-ℤ◌, ◌*ℤ◌}
use Rattle.std.specs.Int.{int_min, int_max}
use Rattle.drm_num.specs.Interval.{Interval, unit}
use Rattle.drm_num.specs.Quotient.{floor, ceiling}

-- the sums of a number of a and a number of b
abbrev pub sum : Interval → Interval → Interval
sum a b = record { lo = a.lo +ℤ b.lo; hi = a.hi +ℤ b.hi }

-- the differences of a number of a and a number of b
abbrev pub difference : Interval → Interval → Interval
difference a b = record { lo = a.lo -ℤ b.hi; hi = a.hi -ℤ b.lo }

-- k times a, for a k that is not negative
abbrev pub scaled : ℤ → Interval → Interval
scaled k a = record { lo = k *ℤ a.lo; hi = k *ℤ a.hi }

-- the least of the four products of an end of a and an end of b, in units of 2^-60
abbrev pub least_product : Interval → Interval → ℤ
least_product a b = int_min (int_min (a.lo *ℤ b.lo) (a.lo *ℤ b.hi)) (int_min (a.hi *ℤ b.lo) (a.hi *ℤ b.hi))

-- the greatest of these four products
abbrev pub greatest_product : Interval → Interval → ℤ
greatest_product a b = int_max (int_max (a.lo *ℤ b.lo) (a.lo *ℤ b.hi)) (int_max (a.hi *ℤ b.lo) (a.hi *ℤ b.hi))

-- a * b + c * d, rounded outwards once
unfoldable pub product_sum : Interval → Interval → Interval → Interval → Interval
product_sum a b c d = record {
  lo = floor (least_product a b +ℤ least_product c d) unit;
  hi = ceiling (greatest_product a b +ℤ greatest_product c d) unit;
}

-- a * b - c * d, rounded outwards once
unfoldable pub product_difference : Interval → Interval → Interval → Interval → Interval
product_difference a b c d = record {
  lo = floor (least_product a b -ℤ greatest_product c d) unit;
  hi = ceiling (greatest_product a b -ℤ least_product c d) unit;
}

-- the numbers from -1 to 1
abbrev pub unit_interval : Interval
unit_interval = record { lo = neg_ℤ unit; hi = unit }

-- the common part of a and b, where there is one
abbrev pub common_part : Interval → Interval → Interval
common_part a b = record { lo = int_max a.lo b.lo; hi = int_min a.hi b.hi }

-- the least interval that holds both
abbrev pub hull : Interval → Interval → Interval
hull a b = record { lo = int_min a.lo b.lo; hi = int_max a.hi b.hi }

-- how many ulps a is wide
abbrev pub width : Interval → ℤ
width a = a.hi -ℤ a.lo

-- how many ulps lie between a and b: 0 where they meet
abbrev pub gap : Interval → Interval → ℤ
gap a b = int_max (int_max (b.lo -ℤ a.hi) (a.lo -ℤ b.hi)) (pos 0)
