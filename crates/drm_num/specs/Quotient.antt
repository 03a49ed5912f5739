-- Whole quotients, rounded down and up, by a divisor above zero.
use Rattle.std.specs.Prelude.{ℤ, pos, neg_ℤ, ◌+ℤ◌, ◌-ℤ◌, ◌*ℤ◌, ◌≤ℤ◌, ◌<ℤ◌}
use Rattle.std.specs.Int.{int_div_euclid}

-- n / d, rounded down
abbrev pub floor : ℤ → ℤ → ℤ
floor n d = int_div_euclid n d

-- n / d, rounded up
abbrev pub ceiling : ℤ → ℤ → ℤ
ceiling n d = neg_ℤ (int_div_euclid (neg_ℤ n) d)

-- q is the greatest whole number that is at most n / d
pub record IsFloor (n d q : ℤ) : Type 0 where
  pub at_most : (q *ℤ d) ≤ℤ n
  pub next_is_above : n <ℤ ((q +ℤ pos 1) *ℤ d)

-- q is the least whole number that is at least n / d
pub record IsCeiling (n d q : ℤ) : Type 0 where
  pub at_least : n ≤ℤ (q *ℤ d)
  pub previous_is_below : ((q -ℤ pos 1) *ℤ d) <ℤ n
