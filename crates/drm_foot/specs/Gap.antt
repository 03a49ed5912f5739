-- How far a number is from an interval.
use Rattle.std.specs.Prelude.{ℤ, pos, ◌-ℤ◌}
use Rattle.std.specs.Int.{int_max}

-- how far `at` is from the interval from `low` to `high`, and 0 where it is in it
abbrev pub gap : ℤ → ℤ → ℤ → ℤ
gap at low high = int_max (pos 0) (int_max (low -ℤ at) (at -ℤ high))
