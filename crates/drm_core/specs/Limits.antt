-- The limit of a core, as a number.
use Rattle.std.specs.Prelude.{ℕ}

-- the greatest number of callers
abbrev pub most_callers : ℕ
most_callers = 8
