-- How far apart two nodes can be.
use Rattle.std.specs.Prelude.{ℕ}

-- the greatest weight of an edge: six joints, each from one end of its range to the other
abbrev pub max_weight : ℕ
max_weight = 49152
