-- What a line tells of itself.
use Rattle.std.specs.Prelude.{ℕ}
use Rattle.ordering.specs.Lines.{Line, closed, opened}

-- How many members it has; a closed line has none.
abbrev pub member_count : Line → ℕ
member_count closed = 0
member_count (opened b) = b.members
