-- An open command is sound by itself when it is sent, and stays so when one destination goes to its next phase.
use Rattle.std.proofs.lemmas.Option.{none-some, same_Some}
use Rattle.std.proofs.Common.{◌≡◌, ℕ, ◌^◌, ◌<◌, ◌≤◌, Bool, true, false, cond, not, ◌||◌, Some, None, Option, sym, refl, ap, ◌∙◌, ⊎_elim, arith}
use Rattle.std.proofs.lemmas.Bool.{both_ways, or_from, or_cases, not-true, not_from_true, false≢true}
use Rattle.machine.specs.declared.command.Command.{Command}
use Rattle.ordering.specs.declared.calls.Phase.{Phase}
use Rattle.ordering.specs.declared.calls.Phase.TheVariants.{Sent, Heard, Gathered, Settled, Run}
use Rattle.ordering.specs.Kept.{is_past, is_settled, Proposes, SoundCommand}
use Rattle.ordering.specs.Limits.{member_limit}
use Rattle.ordering.specs.Lines.{OpenCommand, is_gathered, is_run, everywhere, proposal, greatest_proposal}
use Rattle.ordering.specs.Searches.{put, names, present}
use Rattle.ordering.specs.Steps.{with_phase, with_fixed, new_command, final_of, left}
use Rattle.ordering.proofs.Basics.{put_same, put_cases}
use Rattle.ordering.proofs.Bits.{names_below, names_some}
use Rattle.ordering.proofs.Bounded.{all_each, all_fails, greatest_least}

pub present_some : {X : Type 0} (e : Option X) → present e ≡ true → (x : X) × (e ≡ Some x)
present_some None h = absurd (false≢true h)
present_some (Some x) h = (x, refl)

-- What holds everywhere holds at a destination.
pub everywhere_at : (test : Phase → Bool) (o : OpenCommand) (q : ℕ) → q < member_limit → everywhere test o ≡ true → names o.set q ≡ true → test (o.phase q) ≡ true
everywhere_at test o q i h to =
    ⊎_elim (λ no. absurd (both_ways (names o.set q) (not-true (names o.set q) no) to)) (λ yes. yes) (or_cases (not (names o.set q)) (test (o.phase q)) (all_each member_limit (λ j. not (names o.set j) || test (o.phase j)) h q i))

-- A destination that fails the test fails it for the command.
pub fails_there : (test : Phase → Bool) (o : OpenCommand) (m : ℕ) → m < member_limit → names o.set m ≡ true → test (o.phase m) ≡ false → everywhere test o ≡ false
fails_there test o m i to h =
    all_fails member_limit (λ j. not (names o.set j) || test (o.phase j)) m i (or_from (not (names o.set m)) (test (o.phase m)) (not_from_true (names o.set m) to) h)

pub fails_here : (test : Phase → Bool) (o : OpenCommand) (m : ℕ) (p : Phase) → m < member_limit → names o.set m ≡ true → test p ≡ false → everywhere test (with_phase o m p) ≡ false
fails_here test o m p i to h = fails_there test (with_phase o m p) m i to (ap test (put_same m p o.phase) ∙ h)

-- The final timestamp is fixed by the gather that completes.
pub final_cases : (o : OpenCommand) (f : ℕ) → final_of o ≡ Some f → (everywhere is_gathered o ≡ true) × (greatest_proposal o ≡ f)
final_cases o f = go (everywhere is_gathered o)
  where
    go : (t : Bool) → cond t (Some (greatest_proposal o)) None ≡ Some f → (t ≡ true) × (greatest_proposal o ≡ f)
    go true h = (refl, same_Some _ _ h)
    go false h = absurd (none-some _ h)

unfixed : (o : OpenCommand) → final_of o ≡ None → everywhere is_gathered o ≡ false
unfixed o = go (everywhere is_gathered o)
  where
    go : (t : Bool) → cond t (Some (greatest_proposal o)) None ≡ None → t ≡ false
    go true h = absurd (none-some _ (sym h))
    go false h = refl

gathered_past : (p : Phase) → is_gathered p ≡ true → is_past p ≡ true
gathered_past Sent h = absurd (false≢true h)
gathered_past (Heard t) h = absurd (false≢true h)
gathered_past (Gathered t) h = refl
gathered_past Settled h = absurd (false≢true h)
gathered_past Run h = absurd (false≢true h)

-- What bounds every proposal bounds the greatest.
proposed_room : (P : ℕ → Type 0) → P 0 → (p : Phase) → Proposes p P → P (proposal p)
proposed_room P none Sent h = none
proposed_room P none (Heard t) h = h
proposed_room P none (Gathered t) h = h
proposed_room P none Settled h = none
proposed_room P none Run h = none

pub greatest_room : (P : ℕ → Type 0) (x : ℕ) → P 0 → ((t : ℕ) → P t → t ≤ x) → (o : OpenCommand) → ((q : ℕ) → names o.set q ≡ true → Proposes (o.phase q) P) → greatest_proposal o ≤ x
greatest_room P x none below o proposals = greatest_least member_limit (λ q. cond (names o.set q) (proposal (o.phase q)) 0) x (λ q i. at q (names o.set q) refl)
  where
    at : (q : ℕ) (t : Bool) → names o.set q ≡ t → cond t (proposal (o.phase q)) 0 ≤ x
    at q true e = below (proposal (o.phase q)) (proposed_room P none (o.phase q) (proposals q e))
    at q false e = below 0 none

-- A command that has not left has not run everywhere.
pub left_cases : (o x : OpenCommand) → left o ≡ Some x → (x ≡ o) × (everywhere is_run o ≡ false)
left_cases o x = go (everywhere is_run o)
  where
    go : (t : Bool) → cond t None (Some o) ≡ Some x → (x ≡ o) × (t ≡ false)
    go true h = absurd (none-some _ h)
    go false h = (sym (same_Some _ _ h), refl)

-- A new command has a destination, which is sent.
pub command_sent : (n sender set : ℕ) (c : Command) → n ≤ member_limit → 0 < set → set < 2 ^ n → SoundCommand n (new_command sender set c)
command_sent n sender set c few some below =
    let d = names_some n set some below in
    let i : d.0 < n = d.1 in
    record {
      some = some;
      below = below;
      gathered = λ f q h at. absurd (none-some _ h);
      waiting = λ h. fails_there is_gathered (new_command sender set c) d.0 (omega arith) d.2 refl;
      settled = λ q at h. absurd (false≢true h);
      unrun = fails_there is_run (new_command sender set c) d.0 (omega arith) d.2 refl;
    }

module _ (n : ℕ) (few : n ≤ member_limit) (o : OpenCommand) (s : SoundCommand n o) (m : ℕ) (i : m < n) (to : names o.set m ≡ true) where
  -- A destination that is not gathered keeps the final timestamp from being fixed.
  not_fixed : is_past (o.phase m) ≡ false → (f : ℕ) → o.fixed ≡ Some f → ⊥
  not_fixed early f h = both_ways (is_past (o.phase m)) early (s.gathered f m h to)

  -- And so no destination is settled, nor after a step here that does not settle it.
  none_settled : is_past (o.phase m) ≡ false → (p : Phase) → is_settled p ≡ false → (q : ℕ) → names o.set q ≡ true → is_settled (put m p o.phase q) ≡ true → ⊥
  none_settled early p unsettled q at =
      put_cases m q p o.phase (λ x. is_settled x ≡ true → ⊥) (λ same h. both_ways (is_settled p) unsettled h) (λ ne h. let f = present_some o.fixed (s.settled q at h) in not_fixed early f.0 f.1)

  pub command_heard : (t : ℕ) → o.phase m ≡ Sent → SoundCommand n (with_phase o m (Heard t))
  command_heard t was =
      let early : is_past (o.phase m) ≡ false = ap is_past was in
      record {
        some = s.some;
        below = s.below;
        gathered = λ f q h at. absurd (not_fixed early f h);
        waiting = λ h. fails_here is_gathered o m (Heard t) (omega arith) to refl;
        settled = λ q at h. absurd (none_settled early (Heard t) refl q at h);
        unrun = fails_here is_run o m (Heard t) (omega arith) to refl;
      }

  pub command_gathered : (t : ℕ) → o.phase m ≡ Heard t → SoundCommand n (with_fixed (with_phase o m (Gathered t)) (final_of (with_phase o m (Gathered t))))
  command_gathered t was =
      let early : is_past (o.phase m) ≡ false = ap is_past was in
      record {
        some = s.some;
        below = s.below;
        gathered = gathered;
        waiting = λ h. unfixed (with_phase o m (Gathered t)) h;
        settled = λ q at h. absurd (none_settled early (Gathered t) refl q at h);
        unrun = fails_here is_run o m (Gathered t) (omega arith) to refl;
      }
    where
      gathered : (f q : ℕ) → final_of (with_phase o m (Gathered t)) ≡ Some f → names o.set q ≡ true → is_past (put m (Gathered t) o.phase q) ≡ true
      gathered f q h at =
          let j : q < n = names_below n o.set q s.below at in
          gathered_past (put m (Gathered t) o.phase q) (everywhere_at is_gathered (with_phase o m (Gathered t)) q (omega arith) (final_cases (with_phase o m (Gathered t)) f h).0 at)

  -- After the final timestamp is fixed.
  pub command_later : (p : Phase) (f : ℕ) → is_past p ≡ true → o.fixed ≡ Some f → everywhere is_run (with_phase o m p) ≡ false → SoundCommand n (with_phase o m p)
  command_later p f past fixed unrun =
      record {
        some = s.some;
        below = s.below;
        gathered = λ g q h at. put_cases m q p o.phase (λ x. is_past x ≡ true) (λ same. past) (λ ne. s.gathered g q h at);
        waiting = λ h. absurd (none-some _ (sym h ∙ fixed));
        settled = λ q at h. ap present fixed;
        unrun = unrun;
      }
