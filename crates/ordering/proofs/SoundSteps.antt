-- Every step of a sound line leads to a sound line, and so every line is sound.
use Rattle.std.proofs.lemmas.Option.{none-some, same_Some}
use Rattle.std.proofs.Common.{◌≡◌, ℕ, suc, ◌+◌, ◌-◌, ◌*◌, ◌<◌, ◌≤◌, true, false, List, [], ◌∷◌, Some, None, Ok, Err, Option, sym, refl, ap, subst, arith}
use Rattle.machine.specs.declared.command.Command.{Command}
use Rattle.machine.specs.Kinds.{Kind}
use Rattle.ordering.specs.declared.calls.Call.{Call}
use Rattle.ordering.specs.declared.calls.Call.TheVariants.{Open, Send, Hear, Gather, Settle, Run}
use Rattle.ordering.specs.declared.calls.Phase.TheVariants.{Heard, Gathered, Settled}
use Rattle.ordering.specs.declared.calls.Phase.TheVariants.{Run as HasRun}
use Rattle.ordering.specs.Histories.{Event, sending, hearing, gathering, settling}
use Rattle.ordering.specs.Kept.{owed_by, owed_of, owed_in, owed, Roomy, Proposes, SoundCommand, Sound, SoundLine, Keeps, KeepsLine}
use Rattle.ordering.specs.Limits.{member_limit}
use Rattle.ordering.specs.Lines.{OpenCommand, Member, Book, Line, closed, opened, is_run, everywhere, greatest_proposal}
use Rattle.ordering.specs.Searches.{names}
use Rattle.ordering.specs.Steps.{Outcome, Ran, new_book, new_command, issue, with_command, with_phase, with_fixed, final_of, left, hearer, settler, open_closed, send, hear, gather, settle, run}
use Rattle.ordering.specs.Worlds.{after, step, open_turn, book_turn, run_turn}
use Rattle.ordering.proofs.Accepted.{open_ok, SendOk, send_ok, HearOk, hear_ok, GatherOk, gather_ok, SettleOk, settle_ok, RunOk, run_ok}
use Rattle.ordering.proofs.Advance.{owed_advanced, sound_advanced, sound_moved}
use Rattle.ordering.proofs.Alter.{Fits, sound_altered}
use Rattle.ordering.proofs.Basics.{put_cases}
use Rattle.ordering.proofs.Members.{hearer_recalls, hearer_clock, settler_recalls, settler_clock}
use Rattle.ordering.proofs.Owed.{owed_issued, owed_new, owed_replaced, owed_phase, left_owed}
use Rattle.ordering.proofs.Phases.{fails_here, command_sent, command_heard, command_gathered, command_later, final_cases, greatest_room, left_cases}
use Rattle.ordering.proofs.Ready.{run_ready}

-- Open and send

pub sound_new : (n last : ℕ) → 1 ≤ n → n ≤ member_limit → Sound (new_book n last)
sound_new n last some few =
    record {
      some = some;
      few = few;
      numbered = λ k o h. absurd (none-some _ h);
      command = λ k o h. absurd (none-some _ h);
      known = λ m k c h. absurd (none-some _ h);
      unheard = λ m k o h. absurd (none-some _ h);
      clocks = λ m. omega arith;
      proposals = λ k q o h. absurd (none-some _ h);
      finals = λ k f o h. absurd (none-some _ h);
    }

pub sound_send : (b : Book) (sender set : ℕ) (c : Command) (r : ℕ × Book) → SendOk b sender set c r → Sound b → Sound r.1
sound_send b sender set c r ok s =
    subst (λ x. Sound x.1) (sym ok.result)
    (sound_altered b (suc b.issued) (suc b.issued) (Some (new_command sender set c)) b.member s
    (record {
      more = omega arith;
      issued = omega arith;
      room = room;
      recalls = λ q j d ne h. h;
      clocks = λ q. room (b.member q).clock (s.clocks q);
      new = new;
    }))
  where
    room : (t : ℕ) → Roomy b t → Roomy (issue b (new_command sender set c)) t
    room t h =
        let more : owed (issue b (new_command sender set c)) ≡ owed b + owed_of (new_command sender set c) = owed_issued b (Some (new_command sender set c)) b.member in
        let few : owed_of (new_command sender set c) ≤ 32 = owed_new sender set c in
        omega arith

    unknown : (m : ℕ) → (x : Option Command) → (b.member m).remembers (suc b.issued) ≡ x → x ≡ None
    unknown m None e = refl
    unknown m (Some d) e = let i : suc b.issued ≤ b.issued = s.known m (suc b.issued) d e in absurd (omega arith)

    new : (x : OpenCommand) → ◌≡◌ {A = Option OpenCommand} (Some (new_command sender set c)) (Some x) → Fits (issue b (new_command sender set c)) (suc b.issued) x
    new x h =
        subst (Fits (issue b (new_command sender set c)) (suc b.issued)) (same_Some _ _ h)
        (record {
          numbered = (omega arith, omega arith);
          command = command_sent b.members sender set c s.few ok.some ok.below;
          unheard = λ m to sent. unknown m ((b.member m).remembers (suc b.issued)) refl;
          proposals = λ q to. tt;
          finals = λ f g. absurd (none-some _ g);
        })

-- Hear and settle

pub sound_hear : (K : Kind) (b : Book) (m k : ℕ) (r : ℕ × Book) → HearOk K b m k r → Sound b → Sound r.1
sound_hear K b m k r ok s =
    let o = ok.o in
    let at = ok.reached in
    let p : Member = hearer K b.issued k o.command (b.member m) in
    let near : p.clock ≤ suc (b.member m).clock = hearer_clock K b.issued k o.command (b.member m) in
    let room : Roomy b (b.member m).clock = s.clocks m in
    subst (λ x. Sound x.1) (sym ok.result)
    (sound_moved b s m k o at (Heard p.clock) p
    (record {
      heard = omega arith;
      lower = ap owed_by ok.was;
      sound = command_heard b.members s.few o (s.command k o at.there) m at.inside at.to p.clock ok.was;
      recalls = hearer_recalls K b.issued k o.command (b.member m);
      clock = omega arith;
      proposed = refl;
    }))

pub sound_settle : (b : Book) (m k : ℕ) (r : ℕ × Book) → SettleOk b m k r → Sound b → Sound r.1
sound_settle b m k r ok s =
    let o = ok.o in
    let at = ok.reached in
    let p : Member = settler b.issued k o.command ok.f (b.member m) in
    let few : b.members ≤ member_limit = s.few in
    let i : m < b.members = at.inside in
    let final : Roomy b ok.f = s.finals k ok.f o at.there ok.final in
    let room : Roomy b (b.member m).clock = s.clocks m in
    subst (λ x. Sound x.1) (sym ok.result)
    (sound_moved b s m k o at Settled p
    (record {
      heard = omega arith;
      lower = ap owed_by ok.was;
      sound = command_later b.members s.few o (s.command k o at.there) m at.inside at.to Settled ok.f refl ok.final (fails_here is_run o m Settled (omega arith) at.to refl);
      recalls = settler_recalls b.issued k o.command ok.f (b.member m);
      clock = settler_clock b.issued k o.command ok.f (b.member m) (λ t. t + owed b ≤ suc (2 * member_limit * b.issued)) (omega arith) (λ t l. omega arith);
      proposed = tt;
    }))

-- Gather

pub sound_gather : (b : Book) (m k : ℕ) (r : Option ℕ × Book) → GatherOk b m k r → Sound b → Sound r.1
sound_gather b m k r ok s =
    let o = ok.o in
    let at = ok.reached in
    let x : OpenCommand = with_phase o m (Gathered ok.t) in
    let c : Book = with_command b k (Some (with_fixed x (final_of x))) in
    let same : owed c + owed_by (o.phase m) ≡ owed b + 1 = owed_advanced b s m k o at (Gathered ok.t) (final_of x) b.member in
    let one : owed_by (o.phase m) ≡ 1 = ap owed_by ok.was in
    let proposed : Roomy b ok.t = subst (λ p. Proposes p (Roomy b)) ok.was (s.proposals k m o at.there at.to) in
    let each : (q : ℕ) → names o.set q ≡ true → Proposes (x.phase q) (Roomy b) = λ q to. put_cases m q (Gathered ok.t) o.phase (λ p. Proposes p (Roomy b)) (λ here. proposed) (λ ne. s.proposals k q o at.there to) in
    let spare : ℕ = 2 * member_limit * b.issued - owed b in
    let room : Roomy b (b.member 0).clock = s.clocks 0 in
    let greatest : greatest_proposal x ≤ spare = greatest_room (Roomy b) spare (omega arith) (λ t h. omega arith) x each in
    subst (λ y. Sound y.1) (sym ok.result)
    (sound_advanced b s m k o at.there (Gathered ok.t) (final_of x) (Some (with_fixed x (final_of x))) b.member
    (record {
      heard = omega arith;
      new = λ y h. (sym (same_Some _ _ h), subst (SoundCommand b.members) (same_Some _ _ h) (command_gathered b.members s.few o (s.command k o at.there) m at.inside at.to ok.t ok.was));
      less = omega arith;
      recalls = λ q j d ne h. h;
      others = λ q ne. refl;
      clocks = λ q. let h : Roomy b (b.member q).clock = s.clocks q in omega arith;
      proposed = omega arith;
      final = λ g h. let is : greatest_proposal x ≡ g = (final_cases x g h).1 in omega arith;
    }))

-- Run

pub sound_run : (K : Kind) (b : Book) (m : ℕ) (r : Ran) → RunOk K b m r → Sound b → Sound r.book
sound_run K b m r ok s =
    let o = ok.o in
    let k = ok.pair.1 in
    let ready = run_ready K b m r ok in
    let x : OpenCommand = with_phase o m HasRun in
    let n : k ≤ b.issued = (s.numbered k o ok.there).1 in
    let few : b.members ≤ member_limit = s.few in
    let i : m < b.members = ok.inside in
    let whole : owed (with_command b k (left x)) + owed_of o ≡ owed b + owed_in (left x) = owed_replaced b k o (left x) b.member n ok.there in
    let own : owed_of x + owed_by (o.phase m) ≡ owed_of o + 0 = owed_phase o m HasRun (omega arith) ready.to in
    let rest : owed_in (left x) ≤ owed_of x = left_owed x in
    let less : owed (with_command b k (left x)) ≤ owed b = omega arith in
    let later : everywhere is_run x ≡ false → SoundCommand b.members x = command_later b.members s.few o (s.command k o ok.there) m ok.inside ready.to HasRun ok.pair.0 refl ready.final in
    subst (λ y. Sound y.book) (sym ok.result)
    (sound_advanced b s m k o ok.there HasRun o.fixed (left x) b.member
    (record {
      heard = omega arith;
      new = λ y h. let c = left_cases x y h in (c.0, subst (SoundCommand b.members) (sym c.0) (later c.1));
      less = less;
      recalls = λ q j d ne h. h;
      others = λ q ne. refl;
      clocks = λ q. let h : Roomy b (b.member q).clock = s.clocks q in omega arith;
      proposed = tt;
      final = λ g h. let room : Roomy b g = s.finals k g o ok.there h in omega arith;
    }))

-- Every call

book_sound : {A : Type 0} (event : Outcome A → Event) (b : Book) → Sound b → (x : Outcome (A × Book)) → ((r : A × Book) → x ≡ Ok r → Sound r.1) → SoundLine (book_turn event b x).line
book_sound event b s (Ok r) h = h r refl
book_sound event b s (Err e) h = s

pub sound_step : (K : Kind) (l : Line) (c : Call) → SoundLine l → SoundLine (step K l c).line
sound_step K closed (Open n last) s = go (open_closed n last) refl
  where
    go : (x : Outcome Book) → open_closed n last ≡ x → SoundLine (open_turn n last x).line
    go (Ok b) e = let ok = open_ok n last b e in subst Sound (sym ok.result) (sound_new n last ok.some ok.few)
    go (Err e) h = tt
sound_step K closed (Send sender set c) s = tt
sound_step K closed (Hear m k) s = tt
sound_step K closed (Gather m k) s = tt
sound_step K closed (Settle m k) s = tt
sound_step K closed (Run m) s = tt
sound_step K (opened b) (Open n last) s = s
sound_step K (opened b) (Send sender set c) s = book_sound (sending sender set c) b s (send b sender set c) (λ r h. sound_send b sender set c r (send_ok b sender set c r h) s)
sound_step K (opened b) (Hear m k) s = book_sound (hearing m k) b s (hear K b m k) (λ r h. sound_hear K b m k r (hear_ok K b m k r h) s)
sound_step K (opened b) (Gather m k) s = book_sound (gathering m k) b s (gather b m k) (λ r h. sound_gather b m k r (gather_ok b m k r h) s)
sound_step K (opened b) (Settle m k) s = book_sound (settling m k) b s (settle b m k) (λ r h. sound_settle b m k r (settle_ok b m k r h) s)
sound_step K (opened b) (Run m) s = go (run K b m) refl
  where
    go : (x : Outcome Ran) → run K b m ≡ x → SoundLine (run_turn m b x).line
    go (Ok r) e = sound_run K b m r (run_ok K b m r e) s
    go (Err e) h = s

pub sound_after : (K : Kind) (cs : List Call) → SoundLine (after K cs).line
sound_after K [] = tt
sound_after K (c ∷ cs) = sound_step K (after K cs).line c (sound_after K cs)

pub keeps_from_sound : (b : Book) → Sound b → Keeps b
keeps_from_sound b s =
    record {
      unrun = λ k o there. (s.command k o there).unrun;
      known = s.known;
      bounded = λ m. let h : Roomy b (b.member m).clock = s.clocks m in omega arith;
    }

pub keeps_line : (l : Line) → SoundLine l → KeepsLine l
keeps_line closed s = tt
keeps_line (opened b) s = keeps_from_sound b s
