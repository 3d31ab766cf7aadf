-- The ordering theorem, by induction on the list of calls.
use Rattle.std.proofs.lemmas.Option.{none-some}
use Rattle.std.proofs.Common.{◌≡◌, ℕ, suc, ◌≤◌, List, [], ◌∷◌, Ok, Err, Option, sym, refl, ap, ◌∙◌, subst}
use Rattle.machine.specs.declared.command.Command.{Command}
use Rattle.machine.specs.Kinds.{Kind, Laws}
use Rattle.ordering.specs.declared.calls.Call.{Call}
use Rattle.ordering.specs.declared.calls.Call.TheVariants.{Open, Send, Hear, Gather, Settle, Run}
use Rattle.ordering.specs.Histories.{Account, sending, hearing, gathering, settling, blank, note, read}
use Rattle.ordering.specs.Limits.{member_limit}
use Rattle.ordering.specs.Lines.{Book, Line, closed, opened}
use Rattle.ordering.specs.Ordering.{Ordered, OrderedAlways}
use Rattle.ordering.specs.Steps.{Outcome, Ran, open_closed, send, hear, gather, settle, run}
use Rattle.ordering.specs.Worlds.{World, Turn, after, step, closed_turn, opened_turn, open_turn, book_turn, run_turn, moved}
use Rattle.ordering.proofs.Accepted.{open_ok, send_ok, hear_ok, gather_ok, settle_ok, run_ok}
use Rattle.ordering.proofs.AfterGather.{tied_gather}
use Rattle.ordering.proofs.AfterHear.{tied_hear, members_hear}
use Rattle.ordering.proofs.AfterRun.{tied_run, members_run}
use Rattle.ordering.proofs.AfterSend.{tied_new, members_new, tied_send, members_send}
use Rattle.ordering.proofs.AfterSettle.{tied_settle, members_settle}
use Rattle.ordering.proofs.Progress.{next_step_lem}
use Rattle.ordering.proofs.Reading.{cells_fed, in_order}
use Rattle.ordering.proofs.Ready.{earliest_found, ready_facts}
use Rattle.ordering.proofs.SoundSteps.{sound_new, sound_send, sound_hear, sound_gather, sound_settle, sound_run}
use Rattle.ordering.proofs.Spending.{spent}
use Rattle.ordering.proofs.Standing.{Inv}

-- A closed line has seen nothing but refusals.
data InvLine (K : Kind) (a : Account) (cells : ℕ → List ℕ) : Line → Type 0 where
  unopened : a ≡ blank → cells ≡ (λ m. K.starting) → InvLine K a cells closed
  open_inv : {b : Book} → Inv K a b cells → InvLine K a cells (opened b)

inv_new : (K : Kind) (n last : ℕ) → 1 ≤ n → n ≤ member_limit → Inv K blank (Rattle.ordering.specs.Steps.new_book n last) (λ m. K.starting)
inv_new K n last some few =
    record { sound = sound_new n last some few; tied = tied_new n last; members = members_new K n last }

module _ (K : Kind) (L : Laws K) (a : Account) (b : Book) (cells : ℕ → List ℕ) (h : Inv K a b cells) where
  -- What is kept after a turn of an open line.
  After : Turn → Type 0
  After t = InvLine K (note t.event a) (moved K t.move cells) t.line

  after_send : (sender set : ℕ) (c : Command) (x : Outcome (ℕ × Book)) → send b sender set c ≡ x → After (book_turn (sending sender set c) b x)
  unfolding After
  after_send sender set c (Err e) q = open_inv h
  after_send sender set c (Ok r) q =
      let s = send_ok b sender set c r q in
      let now = Rattle.ordering.specs.Steps.issue b (Rattle.ordering.specs.Steps.new_command sender set c) in
      subst (λ y. After (book_turn (sending sender set c) b (Ok y))) (sym s.result)
      (open_inv (record { sound = subst (λ y. Rattle.ordering.specs.Kept.Sound y.1) s.result (sound_send b sender set c r s h.sound); tied = tied_send K a b cells h sender set c s.below; members = members_send K a b cells h sender set c s.below }))

  after_hear : (m k : ℕ) (x : Outcome (ℕ × Book)) → hear K b m k ≡ x → After (book_turn (hearing m k) b x)
  unfolding After
  after_hear m k (Err e) q = open_inv h
  after_hear m k (Ok r) q =
      let s = hear_ok K b m k r q in
      subst (λ y. After (book_turn (hearing m k) b (Ok y))) (sym s.result)
      (open_inv (record { sound = subst (λ y. Rattle.ordering.specs.Kept.Sound y.1) s.result (sound_hear K b m k r s h.sound); tied = tied_hear K L a b cells h m k s.o s.reached s.was; members = members_hear K L a b cells h m k s.o s.reached s.was }))

  after_gather : (m k : ℕ) (x : Outcome (Option ℕ × Book)) → gather b m k ≡ x → After (book_turn (gathering m k) b x)
  unfolding After
  after_gather m k (Err e) q = open_inv h
  after_gather m k (Ok r) q =
      let s = gather_ok b m k r q in
      subst (λ y. After (book_turn (gathering m k) b (Ok y))) (sym s.result)
      (open_inv (record { sound = subst (λ y. Rattle.ordering.specs.Kept.Sound y.1) s.result (sound_gather b m k r s h.sound); tied = tied_gather K a b cells h m k s.t s.o s.reached s.was; members = h.members }))

  after_settle : (m k : ℕ) (x : Outcome (ℕ × Book)) → settle b m k ≡ x → After (book_turn (settling m k) b x)
  unfolding After
  after_settle m k (Err e) q = open_inv h
  after_settle m k (Ok r) q =
      let s = settle_ok b m k r q in
      subst (λ y. After (book_turn (settling m k) b (Ok y))) (sym s.result)
      (open_inv (record { sound = subst (λ y. Rattle.ordering.specs.Kept.Sound y.1) s.result (sound_settle b m k r s h.sound); tied = tied_settle K a b cells h m k s.f s.t s.o s.reached s.final s.was; members = members_settle K a b cells h m k s.f s.t s.o s.reached s.final s.was }))

  after_run : (m : ℕ) (x : Outcome Ran) → run K b m ≡ x → After (run_turn m b x)
  unfolding After
  after_run m (Err e) q = open_inv h
  after_run m (Ok r) q =
      let s = run_ok K b m r q in
      let w = earliest_found (suc b.issued) (Rattle.ordering.specs.Steps.ready_at K b m) s.pair s.first in
      let ready = ready_facts K b m s.pair.1 s.pair.0 s.o s.there w.1 in
      subst (λ y. After (run_turn m b (Ok y))) (sym s.result)
      (open_inv (record { sound = subst (λ y. Rattle.ordering.specs.Kept.Sound y.book) s.result (sound_run K b m r s h.sound); tied = tied_run K L a b cells h m s.pair.1 s.pair.0 s.o s.inside s.there ready; members = members_run K L a b cells h m s.pair.1 s.pair.0 s.o s.inside s.there ready }))

  after_opened : (c : Call) → After (opened_turn K b c)
  unfolding After
  after_opened (Open n last) = open_inv h
  after_opened (Send sender set c) = after_send sender set c (send b sender set c) refl
  after_opened (Hear m k) = after_hear m k (hear K b m k) refl
  after_opened (Gather m k) = after_gather m k (gather b m k) refl
  after_opened (Settle m k) = after_settle m k (settle b m k) refl
  after_opened (Run m) = after_run m (run K b m) refl

-- What is kept after a turn of a closed line.
after_closed : (K : Kind) (a : Account) (cells : ℕ → List ℕ) → a ≡ blank → cells ≡ (λ m. K.starting) → (c : Call) → InvLine K (note (closed_turn c).event a) (moved K (closed_turn c).move cells) (closed_turn c).line
after_closed K a cells p q (Open n last) = go (open_closed n last) refl
  where
    go : (x : Outcome Book) → open_closed n last ≡ x → InvLine K (note (open_turn n last x).event a) (moved K (open_turn n last x).move cells) (open_turn n last x).line
    go (Err e) w = unopened p q
    go (Ok b) w =
        let s = open_ok n last b w in
        open_inv (subst (λ y. Inv K a y cells) (sym s.result) (subst (λ y. Inv K y (Rattle.ordering.specs.Steps.new_book n last) cells) (sym p) (subst (λ y. Inv K blank (Rattle.ordering.specs.Steps.new_book n last) y) (sym q) (inv_new K n last s.some s.few))))
after_closed K a cells p q (Send sender set c) = unopened p q
after_closed K a cells p q (Hear m k) = unopened p q
after_closed K a cells p q (Gather m k) = unopened p q
after_closed K a cells p q (Settle m k) = unopened p q
after_closed K a cells p q (Run m) = unopened p q

after_step : (K : Kind) → Laws K → (a : Account) (cells : ℕ → List ℕ) (l : Line) → InvLine K a cells l → (c : Call) → InvLine K (note (step K l c).event a) (moved K (step K l c).move cells) (step K l c).line
unfolding After
after_step K L a cells closed (unopened p q) c = after_closed K a cells p q c
after_step K L a cells (opened b) (open_inv h) c = after_opened K L a b cells h c

kept_always : (K : Kind) → Laws K → (cs : List Call) → InvLine K (read (after K cs).history) (after K cs).cells (after K cs).line
kept_always K L [] = unopened refl refl
kept_always K L (c ∷ cs) = after_step K L (read (after K cs).history) (after K cs).cells (after K cs).line (kept_always K L cs) c

-- From what is kept to the theorem.
ordered_open : (K : Kind) → Laws K → (w : World) (b : Book) → w.line ≡ opened b → Inv K (read w.history) b w.cells → Ordered K w
ordered_open K L w b line h =
    record {
      cells = cells_fed K (read w.history) b w.cells h;
      order = in_order K (read w.history) b w.cells h L;
      once = λ m. (h.members m).once;
      progress = λ k m d sent to unrun. subst (Rattle.ordering.specs.Ordering.NextStep K) (sym line) (next_step_lem K b h.sound (read w.history) h.tied k m d sent to unrun);
      cost = spent (read w.history) b h.tied;
    }

ordered_closed : (K : Kind) → Laws K → (w : World) → read w.history ≡ blank → w.cells ≡ (λ m. K.starting) → Ordered K w
ordered_closed K L w p q =
    record {
      cells = cells_fed K (read w.history) first w.cells h;
      order = in_order K (read w.history) first w.cells h L;
      once = λ m. (h.members m).once;
      progress = λ k m d sent. absurd (none-some _ (sym (ap (λ a. a.sent_as k) p) ∙ sent));
      cost = spent (read w.history) first h.tied;
    }
  where
    -- a line that was just opened has seen as little
    first : Book
    first = Rattle.ordering.specs.Steps.new_book 1 1

    h : Inv K (read w.history) first w.cells
    h = subst (λ a. Inv K a first w.cells) (sym p) (subst (λ s. Inv K blank first s) (sym q) (inv_new K 1 1 (lib.Dec.lit≤ tt) (lib.Dec.lit≤ tt)))

ordered_by : (K : Kind) → Laws K → (w : World) (l : Line) → w.line ≡ l → InvLine K (read w.history) w.cells l → Ordered K w
ordered_by K L w closed line (unopened p q) = ordered_closed K L w p q
ordered_by K L w (opened b) line (open_inv h) = ordered_open K L w b line h

pub ordered_always : (K : Kind) → Laws K → OrderedAlways K
ordered_always K L cs = ordered_by K L (after K cs) (after K cs).line refl (kept_always K L cs)
