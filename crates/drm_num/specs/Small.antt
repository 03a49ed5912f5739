-- Whole numbers that are not far from zero.
use Rattle.std.specs.Prelude.{ℤ, neg_ℤ, ◌≤ℤ◌}

-- the number is at most `limit` from zero
pub record IsSmall (limit z : ℤ) : Type 0 where
  pub low : neg_ℤ limit ≤ℤ z
  pub high : z ≤ℤ limit
