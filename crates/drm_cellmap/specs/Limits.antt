-- The limits on roadmaps that their nodes and edges do not set.
use Rattle.std.specs.Prelude.{ℕ}

-- the greatest number of cells that all stored sweeps have together
abbrev pub max_entries : ℕ
max_entries = 16777216
