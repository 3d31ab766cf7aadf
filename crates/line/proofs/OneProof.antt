-- What a line carries in its type has one proof at most, so that a call may take it out again.
use Rattle.std.proofs.Common.{◌≡◌, ℕ, ◌≤◌, Bool}
use mathlib.Core.HLevel.{Unit-prop}
use mathlib.Core.Logic.{∥∥₁_elim}
use denote.Struct.Props.{props}
use Rattle.line.specs.declared.parts.Tables.{Tables}
use Rattle.line.specs.declared.parts.Member.{Member as Seat}
use Rattle.line.specs.Tables.{SeatFits, Fits, Good, view_tables}
use Rattle.ordering.specs.declared.calls.Phase.{Phase}
use Rattle.ordering.specs.declared.calls.Phase.TheVariants.{Sent, Heard, Gathered, Settled, Run}
use Rattle.ordering.specs.Kept.{Sound, SoundCommand, Proposes, Roomy}
use Rattle.ordering.specs.Lines.{OpenCommand, Book}

le_one : (a b : ℕ) → IsProp (a ≤ b)
le_one a b = hlevel props

nat_one : (a b : ℕ) → IsProp (a ≡ b)
nat_one a b = hlevel props

bool_one : (a b : Bool) → IsProp (a ≡ b)
bool_one a b = hlevel props

seat_one : (p : Seat) → IsProp (SeatFits p)
seat_one p x y =
    λ i. record { few = le_one _ _ x.few y.few i; distinct = bool_one _ _ x.distinct y.distinct i }

fits_one : (b : Tables) → IsProp (Fits b)
fits_one b x y =
    λ i. record {
      few = le_one _ _ x.few y.few i;
      seats = nat_one _ _ x.seats y.seats i;
      numbers = le_one _ _ x.numbers y.numbers i;
      lasts = le_one _ _ x.lasts y.lasts i;
      distinct = bool_one _ _ x.distinct y.distinct i;
      wide = λ j p e. nat_one _ _ (x.wide j p e) (y.wide j p e) i;
      seated = λ m l. seat_one _ (x.seated m l) (y.seated m l) i;
    }

command_one : (n : ℕ) (o : OpenCommand) → IsProp (SoundCommand n o)
command_one n o x y =
    λ i. record {
      some = le_one _ _ x.some y.some i;
      below = le_one _ _ x.below y.below i;
      gathered = λ f q e d. bool_one _ _ (x.gathered f q e d) (y.gathered f q e d) i;
      waiting = λ e. bool_one _ _ (x.waiting e) (y.waiting e) i;
      settled = λ q d e. bool_one _ _ (x.settled q d e) (y.settled q d e) i;
      unrun = bool_one _ _ x.unrun y.unrun i;
    }

proposes_one : (b : Book) (p : Phase) → IsProp (Proposes p (Roomy b))
proposes_one b Sent = Unit-prop
proposes_one b (Heard t) = le_one _ _
proposes_one b (Gathered t) = le_one _ _
proposes_one b Settled = Unit-prop
proposes_one b Run = Unit-prop

sound_one : (b : Book) → IsProp (Sound b)
sound_one b x y =
    λ i. record {
      some = le_one _ _ x.some y.some i;
      few = le_one _ _ x.few y.few i;
      numbered = λ k o e. (le_one _ _ (x.numbered k o e).0 (y.numbered k o e).0 i, le_one _ _ (x.numbered k o e).1 (y.numbered k o e).1 i);
      command = λ k o e. command_one _ _ (x.command k o e) (y.command k o e) i;
      known = λ m k c e. le_one _ _ (x.known m k c e) (y.known m k c e) i;
      unheard = λ m k o e d f. bool_one _ _ (x.unheard m k o e d f) (y.unheard m k o e d f) i;
      clocks = λ m. le_one _ _ (x.clocks m) (y.clocks m) i;
      proposals = λ k q o e d. proposes_one b (o.phase q) (x.proposals k q o e d) (y.proposals k q o e d) i;
      finals = λ k f o e d. le_one _ _ (x.finals k f o e d) (y.finals k f o e d) i;
    }

good_one : (b : Tables) → IsProp (Good b)
good_one b x y = λ i. record { fits = fits_one b x.fits y.fits i; sound = sound_one (view_tables b) x.sound y.sound i }

-- What an open line carries.
pub carried : (b : Tables) → ∥ Good b ∥₁ → Good b
carried b t = ∥∥₁_elim t (good_one b) (λ g. g)
