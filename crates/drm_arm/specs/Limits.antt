-- The limits that arms and their configurations keep.
use Rattle.std.specs.Prelude.{ℕ, ℤ, pos, neg_ℤ}

-- the greatest number of links; the least is 1
abbrev pub max_links : ℕ
max_links = 6

-- the greatest length of a link, in units; the least is 1
abbrev pub max_length : ℕ
max_length = 4096

-- the greatest radius of a link, in units; the least is 0
abbrev pub max_radius : ℕ
max_radius = 512

-- the greatest sum of the lengths of an arm's links, in units
abbrev pub max_reach : ℕ
max_reach = 4096

-- the least joint coordinate
abbrev pub min_coordinate : ℤ
min_coordinate = neg_ℤ (pos 4096)

-- the greatest joint coordinate
abbrev pub max_coordinate : ℤ
max_coordinate = pos 4096
