-- How far apart two configurations are.
use Rattle.std.specs.Prelude.{ℕ, ℤ, ◌-ℤ◌, List, sum_by, unsigned_abs}
use Rattle.std.specs.List.{zip}

-- the sum over the joints of the difference of the two coordinates
abbrev pub distance : List ℤ → List ℤ → ℕ
distance xs ys = sum_by (λ pair. unsigned_abs (pair.0 -ℤ pair.1)) (zip xs ys)
