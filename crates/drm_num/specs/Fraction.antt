-- Exact numbers: fractions of whole numbers. Each fact about one asks for a denominator above zero.
use Rattle.std.specs.Prelude.{◌≡◌, ℤ, pos, ◌+ℤ◌, ◌-ℤ◌, ◌*ℤ◌, neg_ℤ, ◌≤ℤ◌, ◌<ℤ◌}

-- the quotient of two whole numbers
pub record Fraction : Type 0 where
  pub top : ℤ
  pub bottom : ℤ

-- the denominator is above zero
abbrev pub IsProper : Fraction → Type 0
IsProper x = pos 0 <ℤ x.bottom

-- a whole number, as a fraction
abbrev pub whole : ℤ → Fraction
whole k = record { top = k; bottom = pos 1 }

-- x + y, with nothing cancelled
abbrev pub plus : Fraction → Fraction → Fraction
plus x y = record { top = (x.top *ℤ y.bottom) +ℤ (y.top *ℤ x.bottom); bottom = x.bottom *ℤ y.bottom }

-- x - y, with nothing cancelled
abbrev pub minus : Fraction → Fraction → Fraction
minus x y = record { top = (x.top *ℤ y.bottom) -ℤ (y.top *ℤ x.bottom); bottom = x.bottom *ℤ y.bottom }

-- -x
abbrev pub opposite : Fraction → Fraction
opposite x = record { top = neg_ℤ x.top; bottom = x.bottom }

-- x * y, with nothing cancelled
abbrev pub times : Fraction → Fraction → Fraction
times x y = record { top = x.top *ℤ y.top; bottom = x.bottom *ℤ y.bottom }

-- x and y are the same number
pub record IsSame (x y : Fraction) : Type 0 where
  pub same : x.top *ℤ y.bottom ≡ y.top *ℤ x.bottom

-- x is at most y
pub record IsAtMost (x y : Fraction) : Type 0 where
  pub at_most : (x.top *ℤ y.bottom) ≤ℤ (y.top *ℤ x.bottom)
