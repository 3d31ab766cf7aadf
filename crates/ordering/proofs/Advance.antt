-- A book stays sound when one destination of one command goes to its next phase, whatever the step: what each step still shows is its command by itself, its clocks and its timestamps.
use Rattle.std.proofs.lemmas.Option.{same_Some}
use Rattle.std.proofs.Common.{◌≡◌, ℕ, suc, ◌+◌, ◌*◌, ◌<◌, ◌≤◌, true, Some, None, Option, sym, ap, ◌∙◌, subst, arith}
use Rattle.ordering.specs.declared.calls.Phase.{Phase}
use Rattle.ordering.specs.declared.calls.Phase.TheVariants.{Sent}
use Rattle.ordering.specs.Kept.{owed_by, owed_of, owed, Roomy, Proposes, SoundCommand, Sound}
use Rattle.ordering.specs.Limits.{member_limit}
use Rattle.ordering.specs.Lines.{OpenCommand, Member, Book}
use Rattle.ordering.specs.Searches.{put, names}
use Rattle.ordering.specs.Steps.{with_member, with_command, with_phase, with_fixed}
use Rattle.ordering.proofs.Accepted.{Reached}
use Rattle.ordering.proofs.Alter.{Fits, fits, Recalls, proposes_map, sound_altered}
use Rattle.ordering.proofs.Basics.{put_cases, put_other}
use Rattle.ordering.proofs.Owed.{altered, owed_replaced, owed_phase}

-- What is owed moves with the phase.
pub owed_advanced : (b : Book) → Sound b → (m k : ℕ) (o : OpenCommand) → Reached b m k o → (p : Phase) (f : Option ℕ) (mem : ℕ → Member) → owed (altered b b.issued k (Some (with_fixed (with_phase o m p) f)) mem) + owed_by (o.phase m) ≡ owed b + owed_by p
owed_advanced b s m k o at p f mem =
    let n : k ≤ b.issued = (s.numbered k o at.there).1 in
    let few : b.members ≤ member_limit = s.few in
    let i : m < b.members = at.inside in
    let x : OpenCommand = with_fixed (with_phase o m p) f in
    let whole : owed (altered b b.issued k (Some x) mem) + owed_of o ≡ owed b + owed_of x = owed_replaced b k o (Some x) mem n at.there in
    let own : owed_of x + owed_by (o.phase m) ≡ owed_of o + owed_by p = owed_phase o m p (omega arith) at.to in
    omega arith

-- The destination m of the command o goes to phase p, with f for the final timestamp. In the table there is e: the
-- command as it is then, or nothing once it has left. Other members stay as they are.
pub record Advances (b : Book) (m k : ℕ) (o : OpenCommand) (p : Phase) (f : Option ℕ) (e : Option OpenCommand) (mem : ℕ → Member) : Type 0 where
  pub heard : owed_by p ≤ 1
  pub new : (x : OpenCommand) → e ≡ Some x → (x ≡ with_fixed (with_phase o m p) f) × SoundCommand b.members x
  pub less : owed (altered b b.issued k e mem) ≤ owed b
  pub recalls : (q : ℕ) → Recalls k (b.member q) (mem q)
  pub others : (q : ℕ) → (m ≡ q → ⊥) → mem q ≡ b.member q
  pub clocks : (q : ℕ) → Roomy (altered b b.issued k e mem) (mem q).clock
  pub proposed : Proposes p (Roomy (altered b b.issued k e mem))
  pub final : (g : ℕ) → f ≡ Some g → Roomy (altered b b.issued k e mem) g

module _ (b : Book) (s : Sound b) (m k : ℕ) (o : OpenCommand) (there : b.table k ≡ Some o) (p : Phase) (f : Option ℕ) (e : Option OpenCommand) (mem : ℕ → Member) where
  pub sound_advanced : Advances b m k o p f e mem → Sound (altered b b.issued k e mem)
  sound_advanced a =
      sound_altered b b.issued k e mem s
      (record {
        more = omega arith;
        issued = fit.numbered.1;
        room = room;
        recalls = a.recalls;
        clocks = a.clocks;
        new = λ x h. let is = a.new x h in subst (Fits c k) (sym is.0) (now (subst (SoundCommand b.members) is.0 is.1));
      })
    where
      c : Book
      c = altered b b.issued k e mem

      fit : Fits b k o
      fit = fits b s k o there

      room : (t : ℕ) → Roomy b t → Roomy c t
      room t h = let less : owed c ≤ owed b = a.less in omega arith

      unheard : (q : ℕ) → names o.set q ≡ true → put m p o.phase q ≡ Sent → (mem q).remembers k ≡ None
      unheard q to =
          put_cases m q p o.phase (λ x. x ≡ Sent → (mem q).remembers k ≡ None)
          (λ same h. let heard : owed_by p ≤ 1 = a.heard in let sent : owed_by p ≡ 2 = ap owed_by h in absurd (omega arith))
          (λ ne h. ap (λ r. r.remembers k) (a.others q ne) ∙ fit.unheard q to h)

      proposals : (q : ℕ) → names o.set q ≡ true → Proposes (put m p o.phase q) (Roomy c)
      proposals q to =
          put_cases m q p o.phase (λ x. Proposes x (Roomy c)) (λ same. a.proposed)
          (λ ne. proposes_map (Roomy b) (Roomy c) room (o.phase q) (fit.proposals q to))

      now : SoundCommand b.members (with_fixed (with_phase o m p) f) → Fits c k (with_fixed (with_phase o m p) f)
      now sound = record { numbered = fit.numbered; command = sound; unheard = unheard; proposals = proposals; finals = a.final }

-- The destination m goes to phase p and the member there to r: one hear or settle less is owed, so there is room
-- for a clock that is one higher.
pub record Moves (b : Book) (m k : ℕ) (o : OpenCommand) (p : Phase) (r : Member) : Type 0 where
  pub heard : owed_by p ≤ 1
  pub lower : owed_by (o.phase m) ≡ suc (owed_by p)
  pub sound : SoundCommand b.members (with_phase o m p)
  pub recalls : Recalls k (b.member m) r
  pub clock : r.clock + owed b ≤ suc (2 * member_limit * b.issued)
  pub proposed : Proposes p (λ t. t ≡ r.clock)

pub sound_moved : (b : Book) → Sound b → (m k : ℕ) (o : OpenCommand) → Reached b m k o → (p : Phase) (r : Member) → Moves b m k o p r → Sound (with_member (with_command b k (Some (with_phase o m p))) m r)
sound_moved b s m k o at p r v =
    let c : Book = with_member (with_command b k (Some (with_phase o m p))) m r in
    let less : owed c + owed_by (o.phase m) ≡ owed b + owed_by p = owed_advanced b s m k o at p o.fixed (put m r b.member) in
    let lower : owed_by (o.phase m) ≡ suc (owed_by p) = v.lower in
    let clock : r.clock + owed b ≤ suc (2 * member_limit * b.issued) = v.clock in
    let roomy : Roomy c r.clock = omega arith in
    sound_advanced b s m k o at.there p o.fixed (Some (with_phase o m p)) (put m r b.member)
    (record {
      heard = v.heard;
      new = λ x h. (sym (same_Some _ _ h), subst (SoundCommand b.members) (same_Some _ _ h) v.sound);
      less = omega arith;
      recalls = λ q. put_cases m q r b.member (Recalls k (b.member q)) (λ same. subst (λ j. Recalls k (b.member j) r) same v.recalls) (λ ne j d away h. h);
      others = λ q ne. put_other m q r b.member ne;
      clocks = λ q. put_cases m q r b.member (λ x. Roomy c x.clock) (λ same. roomy) (λ ne. let h : Roomy b (b.member q).clock = s.clocks q in omega arith);
      proposed = proposes_map (λ t. t ≡ r.clock) (Roomy c) (λ t e. omega arith) p v.proposed;
      final = λ g h. let i : Roomy b g = s.finals k g o at.there h in omega arith;
    })
