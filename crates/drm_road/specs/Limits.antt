-- The limits of roadmaps, and of how they are drawn.
use Rattle.std.specs.Prelude.{ℕ}

-- the greatest number of nodes
abbrev pub max_nodes : ℕ
max_nodes = 2048

-- the greatest number of edges
abbrev pub max_edges : ℕ
max_edges = 32768

-- the greatest number of draws
abbrev pub max_draws : ℕ
max_draws = 2048

-- the greatest number of nearest nodes that each node is joined to
abbrev pub max_near : ℕ
max_near = 16
