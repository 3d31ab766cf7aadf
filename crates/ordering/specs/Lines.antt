-- What a line holds. Where a command lies in memory is no part of it.
use Rattle.std.specs.Prelude.{ℕ, suc, Bool, true, false, cond, not, ◌||◌, Some, None, Option}
use Rattle.machine.specs.declared.command.Command.{Command}
use Rattle.ordering.specs.declared.calls.Phase.{Phase}
use Rattle.ordering.specs.declared.calls.Phase.TheVariants.{Sent, Heard, Gathered, Settled, Run}
use Rattle.ordering.specs.Limits.{member_limit}
use Rattle.ordering.specs.Searches.{names, present, all_below, count_below, greatest_below}

-- An open command: its address, the command, its final timestamp once fixed, and its phase at each destination.
pub record OpenCommand : Type 0 where
  pub sender : ℕ
  pub set : ℕ
  pub command : Command
  pub fixed : Option ℕ
  pub phase : ℕ → Phase

-- A member: its clock, and the commands that it remembers, by issue number.
pub record Member : Type 0 where
  pub clock : ℕ
  pub remembers : ℕ → Option Command

-- An open line: member count, last issue number, count issued, the open commands by issue number, and the members.
pub record Book : Type 0 where
  pub members : ℕ
  pub last : ℕ
  pub issued : ℕ
  pub table : ℕ → Option OpenCommand
  pub member : ℕ → Member

pub data Line : Type 0 where
  closed : Line
  opened : Book → Line

-- How many commands are open.
abbrev pub open_count : Book → ℕ
open_count b = count_below (suc b.issued) (λ k. present (b.table k))

-- How many commands a member remembers; none has a number above the count issued.
abbrev pub held_count : ℕ → Member → ℕ
held_count issued p = count_below (suc issued) (λ k. present (p.remembers k))

abbrev pub is_gathered : Phase → Bool
is_gathered Sent = false
is_gathered (Heard t) = false
is_gathered (Gathered t) = true
is_gathered Settled = false
is_gathered Run = false

abbrev pub is_run : Phase → Bool
is_run Sent = false
is_run (Heard t) = false
is_run (Gathered t) = false
is_run Settled = false
is_run Run = true

abbrev pub proposal : Phase → ℕ
proposal Sent = 0
proposal (Heard t) = t
proposal (Gathered t) = t
proposal Settled = 0
proposal Run = 0

-- Every destination of the command is in such a phase.
abbrev pub everywhere : (Phase → Bool) → OpenCommand → Bool
everywhere test o = all_below member_limit (λ q. not (names o.set q) || test (o.phase q))

-- The greatest proposal of the command's destinations.
abbrev pub greatest_proposal : OpenCommand → ℕ
greatest_proposal o = greatest_below member_limit (λ q. cond (names o.set q) (proposal (o.phase q)) 0)

-- Where a command that a member has heard and not run stands there.
abbrev pub stands_by : Option ℕ → Phase → Option ℕ
stands_by fixed Sent = None
stands_by fixed (Heard t) = Some t
stands_by fixed (Gathered t) = Some t
stands_by fixed Settled = fixed
stands_by fixed Run = None

abbrev pub standing : OpenCommand → ℕ → Option ℕ
standing o m = cond (names o.set m) (stands_by o.fixed (o.phase m)) None
