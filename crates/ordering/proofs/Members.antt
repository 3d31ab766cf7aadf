-- A member that hears or settles remembers nothing new but that command, and its clock rises by at most one, or to the final timestamp.
use Rattle.std.proofs.lemmas.Option.{none-some}
use Rattle.std.proofs.Common.{◌≡◌, ℕ, suc, ◌≤◌, Bool, true, false, cond, not, ◌&&◌, eqb, ltb, Some, None, arith}
use Rattle.machine.specs.declared.command.Command.{Command}
use Rattle.machine.specs.Kinds.{Kind}
use Rattle.ordering.specs.Lines.{Member}
use Rattle.ordering.specs.Searches.{put, present}
use Rattle.ordering.specs.Steps.{must_rise, is_full, risen, remember, hearer, settler}
use Rattle.ordering.proofs.Alter.{Recalls}
use Rattle.ordering.proofs.Basics.{put_cases}

-- The command with number k is put to what was remembered, or to nothing.
remembered : (k : ℕ) (c : Command) (p r : Member) → Recalls k p r → Recalls k p (remember k c r)
remembered k c p r recalls j d ne =
    put_cases k j (Some c) r.remembers (λ x. x ≡ Some d → p.remembers j ≡ Some d) (λ same. absurd (ne same)) (λ away h. recalls j d ne h)

forgotten : (k : ℕ) (p : Member) → Recalls k p (risen p)
forgotten k p j d ne h = absurd (none-some _ h)

pub hearer_recalls : (K : Kind) (n k : ℕ) (c : Command) (p : Member) → Recalls k p (hearer K n k c p)
hearer_recalls K n k c p = remembered k c p (cond (must_rise K n c p) (risen p) p) (go (must_rise K n c p))
  where
    go : (t : Bool) → Recalls k p (cond t (risen p) p)
    go true = forgotten k p
    go false = λ j d ne h. h

pub hearer_clock : (K : Kind) (n k : ℕ) (c : Command) (p : Member) → (hearer K n k c p).clock ≤ suc p.clock
hearer_clock K n k c p = go (must_rise K n c p)
  where
    go : (t : Bool) → (cond t (risen p) p).clock ≤ suc p.clock
    go true = omega arith
    go false = omega arith

-- The clock is raised to the final timestamp.
abbrev raised : ℕ → Command → ℕ → Member
raised k c f = record { clock = f; remembers = put k (Some c) (λ j. None) }

-- The ways of a settle, by its three tests.
settled_ways : (k : ℕ) (c : Command) (f : ℕ) (p : Member) (P : Member → Type 0) → P (raised k c f) → P (risen p) → P (remember k c p) → P p → (s t u : Bool) → P (cond s (raised k c f) (cond t (cond u (risen p) (remember k c p)) p))
settled_ways k c f p P up full room same true t u = up
settled_ways k c f p P up full room same false true true = full
settled_ways k c f p P up full room same false true false = room
settled_ways k c f p P up full room same false false u = same

module _ (n k : ℕ) (c : Command) (f : ℕ) (p : Member) where
  ways : (P : Member → Type 0) → P (raised k c f) → P (risen p) → P (remember k c p) → P p → P (settler n k c f p)
  ways P up full room same =
      settled_ways k c f p P up full room same (ltb p.clock f) (eqb f p.clock && not (present (p.remembers k))) (is_full n p)

  pub settler_recalls : Recalls k p (settler n k c f p)
  settler_recalls =
      ways (Recalls k p) (remembered k c p (risen p) (forgotten k p)) (forgotten k p) (remembered k c p p (λ j d ne h. h)) (λ j d ne h. h)

  -- What holds of the final timestamp, and of all up to one more than the clock, holds of the clock afterwards.
  pub settler_clock : (P : ℕ → Type 0) → P f → ((t : ℕ) → t ≤ suc p.clock → P t) → P (settler n k c f p).clock
  settler_clock P final near =
      ways (λ r. P r.clock) final (near (suc p.clock) (omega arith)) (near p.clock (omega arith)) (near p.clock (omega arith))
