-- The statuses that the program ends with.
use Rattle.std.specs.Prelude.{ℕ, ◌≤◌}

-- the command was done, and its text was written whole
abbrev pub done : ℕ
done = 0

-- the words are no command
abbrev pub no_command : ℕ
no_command = 1

-- the loaded bytes are no robot
abbrev pub no_robot : ℕ
no_robot = 2

-- the loaded bytes are no map file
abbrev pub no_map : ℕ
no_map = 3

-- the log is not in the grammar
abbrev pub no_log : ℕ
no_log = 4

-- the source failed
abbrev pub source_failed : ℕ
source_failed = 5

-- the sink failed
abbrev pub sink_failed : ℕ
sink_failed = 6

-- the shelf failed at a name, or lacks it
abbrev pub shelf_failed : ℕ
shelf_failed = 7

-- there was no memory
abbrev pub no_memory : ℕ
no_memory = 8

-- a limit on length was passed
abbrev pub too_long : ℕ
too_long = 9

-- the check of a map finds a sweep at fault
abbrev pub refuted : ℕ
refuted = 10

-- there is no other status
abbrev pub IsStatus : ℕ → Type 0
IsStatus status = status ≤ 10
