-- The limits of shapes.
use Rattle.std.specs.Prelude.{ℕ, ℤ, pos}

-- the greatest absolute value of a coordinate
abbrev pub farthest : ℤ
farthest = pos 65536

-- the greatest radius of a disc
abbrev pub greatest_radius : ℕ
greatest_radius = 65536
