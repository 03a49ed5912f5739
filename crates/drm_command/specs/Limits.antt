-- The limits on what the program reads, in bytes.
use Rattle.std.specs.Prelude.{ℕ}

-- the greatest length of a robot
abbrev pub robot_limit : ℕ
robot_limit = 1048576

-- the greatest length of a map file
abbrev pub map_limit : ℕ
map_limit = 268435456

-- the greatest length of a log
abbrev pub log_limit : ℕ
log_limit = 16777216
