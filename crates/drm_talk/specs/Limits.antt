-- The limits of a history, as numbers.
use Rattle.std.specs.Prelude.{ℕ}

-- the number of slots
abbrev pub slots : ℕ
slots = 1024

-- the greatest length of a history
abbrev pub full : ℕ
full = 65536
