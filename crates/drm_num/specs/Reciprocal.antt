-- Reciprocals of whole numbers, by which a division becomes a product.
use Rattle.std.specs.Prelude.{ℕ, ◌+◌, ◌*◌, ◌≤◌, ◌<◌}

-- m is scale / n, rounded up
pub record IsReciprocal (scale n m : ℕ) : Type 0 where
  pub enough : scale ≤ n * m
  pub least : n * m < scale + n
