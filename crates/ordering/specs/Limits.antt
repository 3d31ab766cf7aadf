-- The sizes of a line.
use Rattle.std.specs.Prelude.{ℕ, ◌^◌}

-- A line has at most this many members; a set has one bit for each.
abbrev pub member_limit : ℕ
member_limit = 16

-- A line has at most this many open commands.
abbrev pub open_limit : ℕ
open_limit = 32

-- A member remembers at most this many commands.
abbrev pub memory_limit : ℕ
memory_limit = 16

-- The last issue number is at most this.
abbrev pub number_limit : ℕ
number_limit = 2 ^ 48
