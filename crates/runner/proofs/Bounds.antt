-- What bounds the numbers of a trace: every issue number is at most 2^48, and a line has at most 16 members.
use Rattle.std.proofs.lemmas.Option.{none-some}
use Rattle.std.proofs.Common.{◌≡◌, ℕ, suc, ◌^◌, ◌<◌, ◌≤◌, Bool, true, false, cond, ◌&&◌, eqb, leb, List, [], ◌∷◌, length, Some, None, Ok, Err, Option, sym, refl, ap, ◌∙◌, subst, arith}
use Rattle.std.proofs.lemmas.Bool.{and_parts, leb-true}
use Rattle.line.specs.Counts.{member_count}
use Rattle.machine.specs.Kinds.{Kind, Laws}
use Rattle.ordering.proofs.Accepted.{open_ok, send_ok, hear_ok, gather_ok, settle_ok, run_ok}
use Rattle.ordering.proofs.Basics.{some_inj, err_ok}
use Rattle.ordering.proofs.SoundSteps.{sound_after}
use Rattle.ordering.specs.Answering.{answer_of}
use Rattle.ordering.specs.declared.calls.Call.{Call}
use Rattle.ordering.specs.declared.calls.Call.TheVariants.{Open, Send, Hear, Gather, Settle, Run}
use Rattle.ordering.specs.declared.calls.Refusal.TheVariants.{BadMemberCount, BadLastNumber}
use Rattle.ordering.specs.Histories.{Event, sending, hearing, gathering, settling}
use Rattle.ordering.specs.Kept.{Sound, SoundLine}
use Rattle.ordering.specs.Limits.{member_limit, number_limit}
use Rattle.ordering.specs.Lines.{Book, Line, closed, opened}
use Rattle.ordering.specs.Steps.{Outcome, Ran, open_closed, send, hear, gather, settle, run}
use Rattle.ordering.specs.Worlds.{Move, after, step, moved, open_turn, book_turn, run_turn}
use Rattle.trace.specs.Records.{named, shown_number}
use Rattle.runner.specs.Runs.{answer_to}

-- The numbers that a line has issued are at most its last, and that is at most 2^48.
abbrev Numbered : Line → Type 0
Numbered closed = Unit {0}
Numbered (opened b) = (b.issued ≤ b.last) × (b.last ≤ number_limit)

last_small : (n last : ℕ) (b : Book) → open_closed n last ≡ Ok b → last ≤ number_limit
last_small n last b h = go (leb 1 n && leb n member_limit) (leb 1 last && leb last number_limit) refl h
  where
    go : (p q : Bool) → (leb 1 last && leb last number_limit) ≡ q → cond p (cond q (Ok (record { members = n; last = last; issued = 0; table = λ k. None; member = λ m. record { clock = 0; remembers = λ k. None } })) (Err BadLastNumber)) (Err BadMemberCount) ≡ Ok b → last ≤ number_limit
    go true true e h = leb-true last number_limit (and_parts (leb 1 last) (leb last number_limit) e).1
    go true false e h = absurd (err_ok h)
    go false q e h = absurd (err_ok h)

module _ (b : Book) (n : Numbered (opened b)) where
  booked : {A : Type 0} (event : Outcome A → Event) (x : Outcome (A × Book)) → ((r : A × Book) → x ≡ Ok r → Numbered (opened r.1)) → Numbered (book_turn event b x).line
  booked event (Ok r) h = h r refl
  booked event (Err e) h = n

  ran : (m : ℕ) (x : Outcome Ran) → ((r : Ran) → x ≡ Ok r → Numbered (opened r.book)) → Numbered (run_turn m b x).line
  ran m (Ok r) h = h r refl
  ran m (Err e) h = n

  numbered_open : (K : Kind) (c : Call) → Numbered (step K (opened b) c).line
  numbered_open K (Open n' last) = n
  numbered_open K (Send sender set c) =
      booked (sending sender set c) (send b sender set c) (λ r e. let s = send_ok b sender set c r e in subst (λ z. Numbered (opened z.1)) (sym s.result) (s.numbers, n.1))
  numbered_open K (Hear m k) =
      booked (hearing m k) (hear K b m k) (λ r e. subst (λ z. Numbered (opened z.1)) (sym (hear_ok K b m k r e).result) n)
  numbered_open K (Gather m k) =
      booked (gathering m k) (gather b m k) (λ r e. subst (λ z. Numbered (opened z.1)) (sym (gather_ok b m k r e).result) n)
  numbered_open K (Settle m k) =
      booked (settling m k) (settle b m k) (λ r e. subst (λ z. Numbered (opened z.1)) (sym (settle_ok b m k r e).result) n)
  numbered_open K (Run m) = ran m (run K b m) (λ r e. subst (λ z. Numbered (opened z.book)) (sym (run_ok K b m r e).result) n)

numbered_closed : (K : Kind) (c : Call) → Numbered (step K closed c).line
numbered_closed K (Open n last) = go (open_closed n last) refl
  where
    go : (x : Outcome Book) → open_closed n last ≡ x → Numbered (open_turn n last x).line
    go (Ok b) e = subst (λ z. Numbered (opened z)) (sym (open_ok n last b e).result) (omega arith, last_small n last b e)
    go (Err e) h = tt
numbered_closed K (Send sender set c) = tt
numbered_closed K (Hear m k) = tt
numbered_closed K (Gather m k) = tt
numbered_closed K (Settle m k) = tt
numbered_closed K (Run m) = tt

numbered : (K : Kind) (cs : List Call) → Numbered (after K cs).line
numbered K [] = tt
numbered K (c ∷ cs) = go (after K cs).line (numbered K cs)
  where
    go : (l : Line) → Numbered l → Numbered (step K l c).line
    go closed n = numbered_closed K c
    go (opened b) n = numbered_open b n K c

-- The issue number that the record of a call shows.
module _ (K : Kind) (b : Book) (n : Numbered (opened b)) (s : Sound b) where
  shown_open : (c : Call) → ((k : ℕ) → named c ≡ Some k → k < 10 ^ 16) → (k : ℕ) → shown_number c (answer_of (step K (opened b) c).event) ≡ Some k → k < 10 ^ 16
  shown_open (Open n last) small k h = absurd (none-some _ h)
  shown_open (Send sender set c) small k h = go (send b sender set c) refl h
    where
      go : (x : Outcome (ℕ × Book)) → send b sender set c ≡ x → shown_number (Send sender set c) (answer_of (book_turn (sending sender set c) b x).event) ≡ Some k → k < 10 ^ 16
      go (Ok r) e h =
          let o = send_ok b sender set c r e in
          let i : suc b.issued ≡ k = sym (ap (λ z. z.0) o.result) ∙ some_inj h in
          let l = o.numbers in
          let m = n.1 in
          omega arith
      go (Err e) q h = absurd (none-some _ h)
  shown_open (Hear m j) small k h = go (hear K b m j) h
    where
      go : (x : Outcome (ℕ × Book)) → shown_number (Hear m j) (answer_of (book_turn (hearing m j) b x).event) ≡ Some k → k < 10 ^ 16
      go (Ok r) h = small k h
      go (Err e) h = absurd (none-some _ h)
  shown_open (Gather m j) small k h = go (gather b m j) h
    where
      go : (x : Outcome (Option ℕ × Book)) → shown_number (Gather m j) (answer_of (book_turn (gathering m j) b x).event) ≡ Some k → k < 10 ^ 16
      go (Ok r) h = small k h
      go (Err e) h = absurd (none-some _ h)
  shown_open (Settle m j) small k h = go (settle b m j) h
    where
      go : (x : Outcome (ℕ × Book)) → shown_number (Settle m j) (answer_of (book_turn (settling m j) b x).event) ≡ Some k → k < 10 ^ 16
      go (Ok r) h = small k h
      go (Err e) h = absurd (none-some _ h)
  shown_open (Run m) small k h = go (run K b m) refl h
    where
      go : (x : Outcome Ran) → run K b m ≡ x → shown_number (Run m) (answer_of (run_turn m b x).event) ≡ Some k → k < 10 ^ 16
      go (Ok r) e h =
          let o = run_ok K b m r e in
          let i : o.pair.1 ≡ k = sym (ap (λ z. z.pair.1) o.result) ∙ some_inj h in
          let l = (s.numbered o.pair.1 o.o o.there).1 in
          let p = n.0 in
          let q = n.1 in
          omega arith
      go (Err e) q h = absurd (none-some _ h)

shown_closed : (K : Kind) (c : Call) (k : ℕ) → shown_number c (answer_of (step K closed c).event) ≡ Some k → k < 10 ^ 16
shown_closed K (Open n last) k h = go (open_closed n last) h
  where
    go : (x : Outcome Book) → shown_number (Open n last) (answer_of (open_turn n last x).event) ≡ Some k → k < 10 ^ 16
    go (Ok b) h = absurd (none-some _ h)
    go (Err e) h = absurd (none-some _ h)
shown_closed K (Send sender set c) k h = absurd (none-some _ h)
shown_closed K (Hear m j) k h = absurd (none-some _ h)
shown_closed K (Gather m j) k h = absurd (none-some _ h)
shown_closed K (Settle m j) k h = absurd (none-some _ h)
shown_closed K (Run m) k h = absurd (none-some _ h)

pub shown_small : (K : Kind) (cs : List Call) (c : Call) → ((k : ℕ) → named c ≡ Some k → k < 10 ^ 16) → (k : ℕ) → shown_number c (answer_to K cs c) ≡ Some k → k < 10 ^ 16
shown_small K cs c small = go (after K cs).line (numbered K cs) (sound_after K cs)
  where
    go : (l : Line) → Numbered l → SoundLine l → (k : ℕ) → shown_number c (answer_of (step K l c).event) ≡ Some k → k < 10 ^ 16
    go closed n s = shown_closed K c
    go (opened b) n s = shown_open K b n s c small

-- At most 16 members.
pub few_members : (K : Kind) (cs : List Call) → member_count (after K cs).line ≤ 16
few_members K cs = go (after K cs).line (sound_after K cs)
  where
    go : (l : Line) → SoundLine l → member_count l ≤ 16
    go closed s = omega arith
    go (opened b) s = s.few

-- A station has as many cells as its kind says.
pub lawful_cells : (K : Kind) → Laws K → (cs : List Call) (m : ℕ) → K.lawful ((after K cs).cells m) ≡ true
lawful_cells K L [] m = L.starts
lawful_cells K L (c ∷ cs) m = go (λ q. lawful_cells K L cs q) (step K (after K cs).line c).move
  where
    go : ((q : ℕ) → K.lawful ((after K cs).cells q) ≡ true) → (v : Option Move) → K.lawful (moved K v (after K cs).cells m) ≡ true
    go before None = before m
    go before (Some v) = at (eqb v.member m)
      where
        at : (t : Bool) → K.lawful (cond t (K.next ((after K cs).cells v.member) v.command) ((after K cs).cells m)) ≡ true
        at true = L.keeps ((after K cs).cells v.member) v.command (before v.member)
        at false = before m

pub cell_count : (K : Kind) → Laws K → (cs : List Call) (m : ℕ) → length ((after K cs).cells m) ≡ K.count
cell_count K L cs m = L.counted ((after K cs).cells m) (lawful_cells K L cs m)
