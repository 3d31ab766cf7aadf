-- The six calls. Each answers a refusal, which leaves the line as it was, or its answer and the line afterwards.
use Rattle.std.specs.Prelude.{ℕ, suc, ◌^◌, Bool, true, false, cond, not, ◌&&◌, ◌||◌, Some, None, Ok, Err, Option, Result, ◌==◌, nat_le, nat_lt}
use Rattle.machine.specs.declared.command.Command.{Command}
use Rattle.machine.specs.Kinds.{Kind}
use Rattle.ordering.specs.declared.calls.Phase.{Phase}
use Rattle.ordering.specs.declared.calls.Phase.TheVariants.{Sent, Heard, Gathered, Settled, Run}
use Rattle.ordering.specs.declared.calls.Refusal.{Refusal}
use Rattle.ordering.specs.declared.calls.Refusal.TheVariants.{BadMemberCount, BadLastNumber, NoMember, BadSet, NumbersUsedUp, TableFull, NoCommand, NoDestination, TooEarly, AlreadyDone, NothingReady}
use Rattle.ordering.specs.Limits.{member_limit, open_limit, memory_limit, number_limit}
use Rattle.ordering.specs.Lines.{OpenCommand, Member, Book, open_count, held_count, is_gathered, is_run, everywhere, greatest_proposal, standing}
use Rattle.ordering.specs.Searches.{Pair, put, names, present, any_below, all_below, earlier, earliest_below}

-- What a call answers: a refusal, or an answer with what is then there.
abbrev pub Outcome : Type 0 → Type 0
Outcome A = Result A Refusal

-- Refused with e where the test fails.
abbrev pub demand : {A : Type 0} → Bool → Refusal → Outcome A → Outcome A
demand test e r = cond test r (Err e)

-- Open

abbrev pub new_member : Member
new_member = record { clock = 0; remembers = λ k. None }

abbrev pub new_book : ℕ → ℕ → Book
new_book n last = record { members = n; last = last; issued = 0; table = λ k. None; member = λ m. new_member }

abbrev pub open_closed : ℕ → ℕ → Outcome Book
open_closed n last =
    demand (nat_le 1 n && nat_le n member_limit) BadMemberCount (demand (nat_le 1 last && nat_le last number_limit) BadLastNumber (Ok (new_book n last)))

-- Changes of a book

abbrev pub with_command : Book → ℕ → Option OpenCommand → Book
with_command b k o =
    record { members = b.members; last = b.last; issued = b.issued; table = put k o b.table; member = b.member }

abbrev pub with_member : Book → ℕ → Member → Book
with_member b m p =
    record { members = b.members; last = b.last; issued = b.issued; table = b.table; member = put m p b.member }

abbrev pub with_phase : OpenCommand → ℕ → Phase → OpenCommand
with_phase o m p =
    record { sender = o.sender; set = o.set; command = o.command; fixed = o.fixed; phase = put m p o.phase }

abbrev pub with_fixed : OpenCommand → Option ℕ → OpenCommand
with_fixed o f = record { sender = o.sender; set = o.set; command = o.command; fixed = f; phase = o.phase }

-- Send

-- The set has a member, and every one that it names is below n: the bits below n make up less than 2^n.
abbrev pub lawful_set : ℕ → ℕ → Bool
lawful_set n set = nat_lt 0 set && nat_lt set (2 ^ n)

abbrev pub new_command : ℕ → ℕ → Command → OpenCommand
new_command sender set c = record { sender = sender; set = set; command = c; fixed = None; phase = λ q. Sent }

abbrev pub issue : Book → OpenCommand → Book
issue b o =
    record { members = b.members; last = b.last; issued = suc b.issued; table = put (suc b.issued) (Some o) b.table; member = b.member }

-- Answers the next issue number; the command is in phase sent at every destination.
abbrev pub send : Book → ℕ → ℕ → Command → Outcome (ℕ × Book)
send b sender set c =
    demand (nat_lt sender b.members) NoMember (demand (lawful_set b.members set) BadSet (demand (nat_lt b.issued b.last) NumbersUsedUp (demand (nat_lt (open_count b) open_limit) TableFull (Ok (suc b.issued, issue b (new_command sender set c))))))

-- What hear, gather and settle check first: the member, the number, the destination.

abbrev pub destined : ℕ → Option OpenCommand → Outcome OpenCommand
destined m None = Err NoCommand
destined m (Some o) = demand (names o.set m) NoDestination (Ok o)

abbrev pub reach : Book → ℕ → ℕ → Outcome OpenCommand
reach b m k = demand (nat_lt m b.members) NoMember (destined m (b.table k))

-- Hear

abbrev pub clashes : Kind → Command → Option Command → Bool
clashes K c None = false
clashes K c (Some d) = K.conflict d c

abbrev pub is_full : ℕ → Member → Bool
is_full issued p = nat_le memory_limit (held_count issued p)

-- The member remembers 16 commands, or one that conflicts with c.
abbrev pub must_rise : Kind → ℕ → Command → Member → Bool
must_rise K issued c p = is_full issued p || any_below (suc issued) (λ k. clashes K c (p.remembers k))

-- The clock rises by 1 and the remembered ones are dropped.
abbrev pub risen : Member → Member
risen p = record { clock = suc p.clock; remembers = λ k. None }

abbrev pub remember : ℕ → Command → Member → Member
remember k c p = record { clock = p.clock; remembers = put k (Some c) p.remembers }

abbrev pub hearer : Kind → ℕ → ℕ → Command → Member → Member
hearer K issued k c p = remember k c (cond (must_rise K issued c p) (risen p) p)

abbrev pub heard_now : Book → ℕ → ℕ → OpenCommand → Member → ℕ × Book
heard_now b m k o p = (p.clock, with_member (with_command b k (Some (with_phase o m (Heard p.clock)))) m p)

abbrev pub hear_in : Kind → Book → ℕ → ℕ → OpenCommand → Phase → Outcome (ℕ × Book)
hear_in K b m k o Sent = Ok (heard_now b m k o (hearer K b.issued k o.command (b.member m)))
hear_in K b m k o (Heard t) = Err AlreadyDone
hear_in K b m k o (Gathered t) = Err AlreadyDone
hear_in K b m k o Settled = Err AlreadyDone
hear_in K b m k o Run = Err AlreadyDone

abbrev pub hear_at : Kind → Book → ℕ → ℕ → Outcome OpenCommand → Outcome (ℕ × Book)
hear_at K b m k (Err e) = Err e
hear_at K b m k (Ok o) = hear_in K b m k o (o.phase m)

-- Answers the proposal.
abbrev pub hear : Kind → Book → ℕ → ℕ → Outcome (ℕ × Book)
hear K b m k = hear_at K b m k (reach b m k)

-- Gather

-- The final timestamp is the greatest proposal, once every destination is gathered.
abbrev pub final_of : OpenCommand → Option ℕ
final_of o = cond (everywhere is_gathered o) (Some (greatest_proposal o)) None

abbrev pub gathered_now : Book → ℕ → OpenCommand → Option ℕ × Book
gathered_now b k o = (final_of o, with_command b k (Some (with_fixed o (final_of o))))

abbrev pub gather_in : Book → ℕ → ℕ → OpenCommand → Phase → Outcome (Option ℕ × Book)
gather_in b m k o Sent = Err TooEarly
gather_in b m k o (Heard t) = Ok (gathered_now b k (with_phase o m (Gathered t)))
gather_in b m k o (Gathered t) = Err AlreadyDone
gather_in b m k o Settled = Err AlreadyDone
gather_in b m k o Run = Err AlreadyDone

abbrev pub gather_at : Book → ℕ → ℕ → Outcome OpenCommand → Outcome (Option ℕ × Book)
gather_at b m k (Err e) = Err e
gather_at b m k (Ok o) = gather_in b m k o (o.phase m)

-- Answers the final timestamp if this gather fixes it.
abbrev pub gather : Book → ℕ → ℕ → Outcome (Option ℕ × Book)
gather b m k = gather_at b m k (reach b m k)

-- Settle

-- The member when the final timestamp f of command c with number k arrives.
abbrev pub settler : ℕ → ℕ → Command → ℕ → Member → Member
settler issued k c f p =
    cond (nat_lt p.clock f)
    (record { clock = f; remembers = put k (Some c) (λ j. None) })
    (cond (f == p.clock && not (present (p.remembers k))) (cond (is_full issued p) (risen p) (remember k c p)) p)

abbrev pub settled_now : Book → ℕ → ℕ → OpenCommand → Member → ℕ × Book
settled_now b m k o p = (p.clock, with_member (with_command b k (Some (with_phase o m Settled))) m p)

abbrev pub settle_in : Book → ℕ → ℕ → OpenCommand → Option ℕ → Phase → Outcome (ℕ × Book)
settle_in b m k o None p = Err TooEarly
settle_in b m k o (Some f) Sent = Err TooEarly
settle_in b m k o (Some f) (Heard t) = Err TooEarly
settle_in b m k o (Some f) (Gathered t) = Ok (settled_now b m k o (settler b.issued k o.command f (b.member m)))
settle_in b m k o (Some f) Settled = Err AlreadyDone
settle_in b m k o (Some f) Run = Err AlreadyDone

abbrev pub settle_at : Book → ℕ → ℕ → Outcome OpenCommand → Outcome (ℕ × Book)
settle_at b m k (Err e) = Err e
settle_at b m k (Ok o) = settle_in b m k o o.fixed (o.phase m)

-- Answers the clock afterwards.
abbrev pub settle : Book → ℕ → ℕ → Outcome (ℕ × Book)
settle b m k = settle_at b m k (reach b m k)

-- Run

-- A command standing at t does not hinder one with pair p and command c.
abbrev pub passes_at : Kind → Pair → Command → Command → ℕ → Option ℕ → Bool
passes_at K p c d j None = true
passes_at K p c d j (Some t) = not (K.conflict c d) || earlier p (t, j)

-- The command with number j, if it is another and open, does not conflict or stands later at member m.
abbrev pub passes : Kind → ℕ → Pair → Command → ℕ → Option OpenCommand → Bool
passes K m p c j None = true
passes K m p c j (Some o) = j == p.1 || passes_at K p c o.command j (standing o m)

-- The final timestamp of a command that is settled at the member.
abbrev pub final_if : Option ℕ → Phase → Option ℕ
final_if fixed Sent = None
final_if fixed (Heard t) = None
final_if fixed (Gathered t) = None
final_if fixed Settled = fixed
final_if fixed Run = None

abbrev pub settled_as : ℕ → Option OpenCommand → Option ℕ
settled_as m None = None
settled_as m (Some o) = cond (names o.set m) (final_if o.fixed (o.phase m)) None

-- Every other unrun command that the member has heard does not conflict with c or stands later than the pair.
abbrev pub unhindered : Kind → Book → ℕ → Pair → Command → Bool
unhindered K b m p c = all_below (suc b.issued) (λ j. passes K m p c j (b.table j))

abbrev pub ready_if : Kind → Book → ℕ → ℕ → Option OpenCommand → Option ℕ → Option ℕ
ready_if K b m k None f = None
ready_if K b m k (Some o) None = None
ready_if K b m k (Some o) (Some f) = cond (unhindered K b m (f, k) o.command) (Some f) None

-- The final timestamp of the command with number k, if it is ready at member m.
abbrev pub ready_at : Kind → Book → ℕ → ℕ → Option ℕ
ready_at K b m k = ready_if K b m k (b.table k) (settled_as m (b.table k))

-- What a run answers: the pair, the command to be run on the machine, and the book afterwards.
pub record Ran : Type 0 where
  pub pair : Pair
  pub command : Command
  pub book : Book

-- A command that has run everywhere leaves.
abbrev pub left : OpenCommand → Option OpenCommand
left o = cond (everywhere is_run o) None (Some o)

abbrev pub run_taken : Book → ℕ → Pair → Option OpenCommand → Outcome Ran
run_taken b m p None = Err NothingReady
run_taken b m p (Some o) =
    Ok (record { pair = p; command = o.command; book = with_command b p.1 (left (with_phase o m Run)) })

abbrev pub run_earliest : Book → ℕ → Option Pair → Outcome Ran
run_earliest b m None = Err NothingReady
run_earliest b m (Some p) = run_taken b m p (b.table p.1)

-- Takes the earliest ready command of the member.
abbrev pub run : Kind → Book → ℕ → Outcome Ran
run K b m = demand (nat_lt m b.members) NoMember (run_earliest b m (earliest_below (suc b.issued) (ready_at K b m)))
