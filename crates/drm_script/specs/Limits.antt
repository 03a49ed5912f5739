-- The numbers of the grammar.
use Rattle.std.specs.Prelude.{ℕ, ◌^◌}

-- the numbers of slots are below this
abbrev pub slot_limit : ℕ
slot_limit = 2 ^ 16

-- lengths of routes and labels are below this
abbrev pub wide_limit : ℕ
wide_limit = 2 ^ 64

-- all other numbers without a sign are below this
abbrev pub number_limit : ℕ
number_limit = 2 ^ 32

-- the numbers of callers are below this
abbrev pub caller_limit : ℕ
caller_limit = 8

-- there are no more lines in a log
abbrev pub line_limit : ℕ
line_limit = 200000

-- no more lines of a log are asks
abbrev pub ask_limit : ℕ
ask_limit = 4096

-- a ring has no more coordinates
abbrev pub ring_limit : ℕ
ring_limit = 16

-- fewer nodes than this are tried for an end of an ask
abbrev pub tried_limit : ℕ
tried_limit = 13

-- a route, the side of a cut and the labels have fewer nodes than this
abbrev pub nodes_limit : ℕ
nodes_limit = 2049
