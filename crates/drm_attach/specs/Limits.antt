-- The limit on candidates.
use Rattle.std.specs.Prelude.{ℕ}

-- no more nodes are tried for a configuration
abbrev pub max_candidates : ℕ
max_candidates = 12
