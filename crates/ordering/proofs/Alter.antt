-- A book stays sound when it changes at one number, if the changed command fits it, the members remember nothing new but that number, and the clocks leave room.
use Rattle.std.proofs.lemmas.Option.{none-some}
use Rattle.std.proofs.Common.{◌≡◌, ℕ, ◌≤◌, true, Some, None, Option, sym, refl, ap, ◌∙◌, subst, ⊎_elim, arith}
use Rattle.std.proofs.lemmas.Bool.{cases_eq}
use Rattle.machine.specs.declared.command.Command.{Command}
use Rattle.ordering.specs.declared.calls.Phase.{Phase}
use Rattle.ordering.specs.declared.calls.Phase.TheVariants.{Sent, Heard, Gathered, Settled, Run}
use Rattle.ordering.specs.Kept.{Roomy, Proposes, SoundCommand, Sound}
use Rattle.ordering.specs.Lines.{OpenCommand, Member, Book}
use Rattle.ordering.specs.Searches.{put, names, present}
use Rattle.ordering.proofs.Basics.{absent_none, put_cases}
use Rattle.ordering.proofs.Owed.{altered}

-- What a sound book says of the command with number k.
pub record Fits (b : Book) (k : ℕ) (o : OpenCommand) : Type 0 where
  pub numbered : (1 ≤ k) × (k ≤ b.issued)
  pub command : SoundCommand b.members o
  pub unheard : (m : ℕ) → names o.set m ≡ true → o.phase m ≡ Sent → (b.member m).remembers k ≡ None
  pub proposals : (q : ℕ) → names o.set q ≡ true → Proposes (o.phase q) (Roomy b)
  pub finals : (f : ℕ) → o.fixed ≡ Some f → Roomy b f

pub fits : (b : Book) → Sound b → (k : ℕ) (o : OpenCommand) → b.table k ≡ Some o → Fits b k o
fits b s k o there =
    record {
      numbered = s.numbered k o there;
      command = s.command k o there;
      unheard = λ m to sent. absent_none ((b.member m).remembers k) (s.unheard m k o there to sent);
      proposals = λ q. s.proposals k q o there;
      finals = λ f. s.finals k f o there;
    }

-- All that a member remembers afterwards it remembered before, but for the number k.
abbrev pub Recalls : ℕ → Member → Member → Type 0
Recalls k p r = (j : ℕ) (c : Command) → (k ≡ j → ⊥) → r.remembers j ≡ Some c → p.remembers j ≡ Some c

recalls_none : (k : ℕ) (p r : Member) → Recalls k p r → (j : ℕ) → (k ≡ j → ⊥) → p.remembers j ≡ None → r.remembers j ≡ None
recalls_none k p r recalls j ne h = go (r.remembers j) refl
  where
    go : (x : Option Command) → r.remembers j ≡ x → x ≡ None
    go None e = refl
    go (Some c) e = absurd (none-some _ (sym h ∙ recalls j c ne e))

pub proposes_map : (P Q : ℕ → Type 0) → ((t : ℕ) → P t → Q t) → (p : Phase) → Proposes p P → Proposes p Q
proposes_map P Q f Sent h = tt
proposes_map P Q f (Heard t) h = f t h
proposes_map P Q f (Gathered t) h = f t h
proposes_map P Q f Settled h = tt
proposes_map P Q f Run h = tt

-- What the change is asked: no number is taken back, room is left, and the rest as above.
pub record Alters (b : Book) (n k : ℕ) (e : Option OpenCommand) (mem : ℕ → Member) : Type 0 where
  pub more : b.issued ≤ n
  pub issued : k ≤ n
  pub room : (t : ℕ) → Roomy b t → Roomy (altered b n k e mem) t
  pub recalls : (q : ℕ) → Recalls k (b.member q) (mem q)
  pub clocks : (q : ℕ) → Roomy (altered b n k e mem) (mem q).clock
  pub new : (x : OpenCommand) → e ≡ Some x → Fits (altered b n k e mem) k x

pub sound_altered : (b : Book) (n k : ℕ) (e : Option OpenCommand) (mem : ℕ → Member) → Sound b → Alters b n k e mem → Sound (altered b n k e mem)
sound_altered b n k e mem s a =
    record {
      some = s.some;
      few = s.few;
      numbered = λ j x h. (all j x h).numbered;
      command = λ j x h. (all j x h).command;
      known = known;
      unheard = λ m j x h to sent. ap present ((all j x h).unheard m to sent);
      clocks = a.clocks;
      proposals = λ j q x h. (all j x h).proposals q;
      finals = λ j f x h. (all j x h).finals f;
    }
  where
    known : (m j : ℕ) (c : Command) → (mem m).remembers j ≡ Some c → j ≤ n
    known m j c h =
        ⊎_elim (λ same. omega arith) (λ ne. let i : j ≤ b.issued = s.known m j c (a.recalls m j c ne h) in omega arith) (cases_eq k j)

    old : (j : ℕ) → (k ≡ j → ⊥) → (x : OpenCommand) → b.table j ≡ Some x → Fits (altered b n k e mem) j x
    old j ne x there =
        let fit = fits b s j x there in
        let i : j ≤ b.issued = fit.numbered.1 in
        record {
          numbered = (fit.numbered.0, omega arith);
          command = fit.command;
          unheard = λ m to sent. recalls_none k (b.member m) (mem m) (a.recalls m) j ne (fit.unheard m to sent);
          proposals = λ q to. proposes_map (Roomy b) (Roomy (altered b n k e mem)) a.room (x.phase q) (fit.proposals q to);
          finals = λ f h. a.room f (fit.finals f h);
        }

    Fit : ℕ → Option OpenCommand → Type 0
    Fit j y = (x : OpenCommand) → y ≡ Some x → Fits (altered b n k e mem) j x

    all : (j : ℕ) (x : OpenCommand) → put k e b.table j ≡ Some x → Fits (altered b n k e mem) j x
    all j = put_cases k j e b.table (Fit j) (λ same. subst (λ y. Fit y e) same a.new) (λ ne. old j ne)
