-- Loops over the destinations of an open command, turn by turn.
use Rattle.std.proofs.lemmas.Option.{none-some}
use Rattle.std.proofs.Common.{◌≡◌, ℕ, ◌+◌, ◌^◌, ◌<◌, ◌≤◌, Bool, true, false, cond, not, ◌||◌, Some, None, sym, refl, ap, ◌∙◌, subst, get_or, arith}
use Rattle.std.proofs.lemmas.Bool.{false_from_ne_true}
use Rattle.ordering.proofs.Bits.{names_below}
use Rattle.std.proofs.lemmas.List.FromFn.{get_or-range_with_len}
use Rattle.std.specs.Bool.{MatchBool}
use Rattle.std.specs.List.{AllWithin, HoldsAt, range_with_len}
use Rattle.open_commands.specs.Views.{gathered_by, gathered_at, done_at}
use Rattle.ordering.proofs.Bounded.{all_fails, all_from}
use Rattle.ordering.specs.declared.calls.Phase.{Phase}
use Rattle.ordering.specs.declared.calls.Phase.TheVariants.{Sent, Heard, Gathered, Settled, Run}
use Rattle.ordering.specs.Lines.{OpenCommand, is_gathered, is_run, proposal, everywhere, greatest_proposal}
use Rattle.ordering.specs.Searches.{names, all_below, greatest_below}
use Rattle.ordering.specs.Steps.{final_of}

abbrev test : OpenCommand → ℕ → Bool
test o q = not (names o.set q) || is_gathered (o.phase q)

-- The destinations below q are gathered, and g is their greatest proposal.
abbrev pub SoFar : OpenCommand → ℕ → ℕ → Type 0
SoFar o q g = (all_below q (λ i. not (names o.set i) || is_gathered (o.phase i)) ≡ true) × (g ≡ greatest_below q (λ i. cond (names o.set i) (proposal (o.phase i)) 0))

miss : (o : OpenCommand) (q : ℕ) → gathered_at o q ≡ None → test o q ≡ false
miss o q h = by_name (names o.set q) h
  where
    by_phase : (x : Phase) → gathered_by x ≡ None → is_gathered x ≡ false
    by_phase Sent h = refl
    by_phase (Heard t) h = refl
    by_phase (Gathered t) h = absurd (none-some _ (sym h))
    by_phase Settled h = refl
    by_phase Run h = refl

    by_name : (n : Bool) → cond n (gathered_by (o.phase q)) (Some 0) ≡ None → (not n || is_gathered (o.phase q)) ≡ false
    by_name true h = by_phase (o.phase q) h
    by_name false h = absurd (none-some _ (sym h))

pub final_stop : (o : OpenCommand) (q : ℕ) → q < 16 → gathered_at o q ≡ None → None ≡ final_of o
final_stop o q l h = ap (λ t. cond t (Some (greatest_proposal o)) None) (sym (all_fails 16 (test o) q l (miss o q h)))

pub final_all : (o : OpenCommand) (q g : ℕ) → q ≡ 16 → SoFar o q g → Some g ≡ final_of o
final_all o q g e s =
    let w = subst (λ n. SoFar o n g) e s in
    ap Some w.1 ∙ ap (λ t. cond t (Some (greatest_proposal o)) None) (sym w.0)

turn : (k : ℕ) → k < 16 → get_or (range_with_len 0 16) k 0 ≡ k
turn k l = let w : 0 + k ≡ k = omega arith in get_or-range_with_len 0 16 k 0 l ∙ w

-- Every member in turn has run the command or is no destination, or one has not and is.
pub all_done : (o : OpenCommand) (r : Bool) → MatchBool r (AllWithin (λ q. done_at o q ≡ true) (range_with_len 0 16) 0 16) ((k : ℕ) × (k < 16) × HoldsAt (λ q. done_at o q ≡ false) (range_with_len 0 16) k) → r ≡ everywhere is_run o
all_done o true h =
    sym (all_from 16 (done_at o) (λ k l. subst (λ q. done_at o q ≡ true) (turn k l) (h k 0 (omega arith) l)))
all_done o false h = sym (all_fails 16 (done_at o) h.0 h.1 (subst (λ q. done_at o q ≡ false) (turn h.0 h.1) (h.2 0)))

-- A set of sixteen members names none past them.
pub names_none : (set q : ℕ) → set < 2 ^ 16 → 16 ≤ q → names set q ≡ false
names_none set q s l = false_from_ne_true (names set q) (λ h. absurd (omega (arith, l, names_below 16 set q s h)))
