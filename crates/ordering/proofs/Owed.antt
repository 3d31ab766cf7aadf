-- What a change at one number does to the hears and settles still to come: it moves their sum by as much as that command's own, and a phase moves the command's own by as much as the phase.
use Rattle.std.proofs.Common.{◌≡◌, ℕ, suc, ◌+◌, ◌*◌, ◌<◌, ◌≤◌, Bool, true, false, cond, Some, None, Option, ap, ◌∙◌, arith}
use Rattle.std.proofs.lemmas.Bool.{cond-true}
use Rattle.machine.specs.declared.command.Command.{Command}
use Rattle.ordering.specs.declared.calls.Phase.{Phase}
use Rattle.ordering.specs.Kept.{owed_by, owed_of, owed_in, owed}
use Rattle.ordering.specs.Limits.{member_limit}
use Rattle.ordering.specs.Lines.{OpenCommand, Member, Book, is_run, everywhere}
use Rattle.ordering.specs.Searches.{put, names, sum_below}
use Rattle.ordering.specs.Steps.{with_phase, new_command, left}
use Rattle.ordering.proofs.Basics.{put_same, put_other}
use Rattle.ordering.proofs.Bounded.{sum_change, sum_below_lem}

-- The book with n numbers issued, e at the number k and these members.
abbrev pub altered : Book → ℕ → ℕ → Option OpenCommand → (ℕ → Member) → Book
altered b n k e mem = record { members = b.members; last = b.last; issued = n; table = put k e b.table; member = mem }

pub owed_altered : (b : Book) (n k : ℕ) (e : Option OpenCommand) (mem : ℕ → Member) → k ≤ n → owed (altered b n k e mem) + owed_in (b.table k) ≡ sum_below (suc n) (λ j. owed_in (b.table j)) + owed_in e
owed_altered b n k e mem i =
    let moved : sum_below (suc n) (λ j. owed_in (put k e b.table j)) + owed_in (b.table k) ≡ sum_below (suc n) (λ j. owed_in (b.table j)) + owed_in (put k e b.table k) = sum_change (suc n) (λ j. owed_in (put k e b.table j)) (λ j. owed_in (b.table j)) k (omega arith) (λ j ne. ap owed_in (put_other k j e b.table ne)) in
    let here : owed_in (put k e b.table k) ≡ owed_in e = ap owed_in (put_same k e b.table) in
    omega arith

-- At a number that is issued already.
pub owed_replaced : (b : Book) (k : ℕ) (o : OpenCommand) (e : Option OpenCommand) (mem : ℕ → Member) → k ≤ b.issued → b.table k ≡ Some o → owed (altered b b.issued k e mem) + owed_of o ≡ owed b + owed_in e
owed_replaced b k o e mem i there =
    let moved : owed (altered b b.issued k e mem) + owed_in (b.table k) ≡ owed b + owed_in e = owed_altered b b.issued k e mem i in
    let was : owed_in (b.table k) ≡ owed_of o = ap owed_in there in
    omega arith

-- At the next number.
pub owed_issued : (b : Book) (e : Option OpenCommand) (mem : ℕ → Member) → owed (altered b (suc b.issued) (suc b.issued) e mem) ≡ owed b + owed_in e
owed_issued b e mem =
    let moved : owed (altered b (suc b.issued) (suc b.issued) e mem) + owed_in (b.table (suc b.issued)) ≡ owed_in (b.table (suc b.issued)) + owed b + owed_in e = owed_altered b (suc b.issued) (suc b.issued) e mem (omega arith) in
    omega arith

pub owed_phase : (o : OpenCommand) (m : ℕ) (p : Phase) → m < member_limit → names o.set m ≡ true → owed_of (with_phase o m p) + owed_by (o.phase m) ≡ owed_of o + owed_by p
owed_phase o m p i to =
    let moved : owed_of (with_phase o m p) + by o.phase m ≡ owed_of o + by (put m p o.phase) m = sum_change member_limit (by (put m p o.phase)) (by o.phase) m i (λ q ne. ap (λ x. cond (names o.set q) (owed_by x) 0) (put_other m q p o.phase ne)) in
    let before : by o.phase m ≡ owed_by (o.phase m) = cond-true (names o.set m) (owed_by (o.phase m)) 0 to in
    let after : by (put m p o.phase) m ≡ owed_by p = cond-true (names o.set m) (owed_by (put m p o.phase m)) 0 to ∙ ap owed_by (put_same m p o.phase) in
    omega arith
  where
    by : (ℕ → Phase) → ℕ → ℕ
    by phase q = cond (names o.set q) (owed_by (phase q)) 0

-- A command that is sent owes at most two at each member.
pub owed_new : (sender set : ℕ) (c : Command) → owed_of (new_command sender set c) ≤ 2 * member_limit
owed_new sender set c = sum_below_lem member_limit (λ q. cond (names set q) 2 0) 2 (λ q i. at (names set q))
  where
    at : (t : Bool) → cond t 2 0 ≤ 2
    at true = omega arith
    at false = omega arith

-- A command that leaves owes nothing more.
pub left_owed : (o : OpenCommand) → owed_in (left o) ≤ owed_of o
left_owed o = go (everywhere is_run o)
  where
    go : (t : Bool) → owed_in (cond t None (Some o)) ≤ owed_of o
    go true = omega arith
    go false = omega arith
