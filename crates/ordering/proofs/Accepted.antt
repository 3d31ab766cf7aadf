-- What an accepted call found, and what it answers: each call turned round, so that no later proof walks through the checks.
use Rattle.std.proofs.Common.{◌≡◌, ℕ, suc, ◌^◌, ◌<◌, ◌≤◌, Bool, true, false, ltb, leb, Some, None, Ok, Err, Option, sym, refl, ap, ◌∙◌, subst}
use Rattle.std.proofs.lemmas.Bool.{ltb-true, leb-true, and_parts}
use Rattle.machine.specs.declared.command.Command.{Command}
use Rattle.machine.specs.Kinds.{Kind}
use Rattle.ordering.specs.declared.calls.Phase.{Phase}
use Rattle.ordering.specs.declared.calls.Phase.TheVariants.{Sent, Heard, Gathered, Settled, Run}
use Rattle.ordering.specs.declared.calls.Refusal.{Refusal}
use Rattle.ordering.specs.Limits.{member_limit, open_limit}
use Rattle.ordering.specs.Lines.{OpenCommand, Book, open_count}
use Rattle.ordering.specs.Searches.{Pair, names, earliest_below}
use Rattle.ordering.specs.Steps.{Outcome, demand, Ran, new_book, new_command, issue, open_closed, send, destined, reach, hear, hear_at, hear_in, hearer, heard_now, gather, gather_at, gather_in, gathered_now, with_phase, settle, settle_at, settle_in, settled_now, settler, run, run_earliest, run_taken, ready_at, with_command, left}
use Rattle.ordering.proofs.Basics.{ok_inj, err_ok}

demand_ok : {A : Type 0} (test : Bool) (e : Refusal) (r : Outcome A) (x : A) → demand test e r ≡ Ok x → (test ≡ true) × (r ≡ Ok x)
demand_ok true e r x h = (refl, h)
demand_ok false e r x h = absurd (err_ok h)

pub record OpenOk (n last : ℕ) (b : Book) : Type 0 where
  pub some : 1 ≤ n
  pub few : n ≤ member_limit
  pub result : b ≡ new_book n last

pub open_ok : (n last : ℕ) (b : Book) → open_closed n last ≡ Ok b → OpenOk n last b
open_ok n last b h =
    let p = demand_ok _ _ _ _ h in
    let q = demand_ok _ _ _ _ p.1 in
    let r = and_parts (leb 1 n) (leb n member_limit) p.0 in
    record { some = leb-true 1 n r.0; few = leb-true n member_limit r.1; result = sym (ok_inj q.1) }

pub record SendOk (b : Book) (sender set : ℕ) (c : Command) (r : ℕ × Book) : Type 0 where
  pub inside : sender < b.members
  pub some : 0 < set
  pub below : set < 2 ^ b.members
  pub numbers : b.issued < b.last
  pub room : open_count b < open_limit
  pub result : r ≡ (suc b.issued, issue b (new_command sender set c))

pub send_ok : (b : Book) (sender set : ℕ) (c : Command) (r : ℕ × Book) → send b sender set c ≡ Ok r → SendOk b sender set c r
send_ok b sender set c r h =
    let p = demand_ok _ _ _ _ h in
    let q = demand_ok _ _ _ _ p.1 in
    let s = demand_ok _ _ _ _ q.1 in
    let t = demand_ok _ _ _ _ s.1 in
    let u = and_parts (ltb 0 set) (ltb set (2 ^ b.members)) q.0 in
    record {
      inside = ltb-true _ _ p.0;
      some = ltb-true _ _ u.0;
      below = ltb-true _ _ u.1;
      numbers = ltb-true _ _ s.0;
      room = ltb-true _ _ t.0;
      result = sym (ok_inj t.1);
    }

-- The member, the number and the destination are right.
pub record Reached (b : Book) (m k : ℕ) (o : OpenCommand) : Type 0 where
  pub inside : m < b.members
  pub there : b.table k ≡ Some o
  pub to : names o.set m ≡ true

pub reach_ok : (b : Book) (m k : ℕ) (o : OpenCommand) → reach b m k ≡ Ok o → Reached b m k o
reach_ok b m k o h =
    let p = demand_ok _ _ _ _ h in
    go (b.table k) refl (ltb-true _ _ p.0) p.1
  where
    go : (e : Option OpenCommand) → b.table k ≡ e → m < b.members → destined m e ≡ Ok o → Reached b m k o
    go None e i h = absurd (err_ok h)
    go (Some x) e i h =
        let q = demand_ok _ _ _ _ h in
        let same : x ≡ o = ok_inj q.1 in
        record { inside = i; there = e ∙ ap Some same; to = subst (λ y. names y.set m ≡ true) same q.0 }

pub record HearOk (K : Kind) (b : Book) (m k : ℕ) (r : ℕ × Book) : Type 0 where
  pub o : OpenCommand
  pub reached : Reached b m k o
  pub was : o.phase m ≡ Sent
  pub result : r ≡ heard_now b m k o (hearer K b.issued k o.command (b.member m))

pub hear_ok : (K : Kind) (b : Book) (m k : ℕ) (r : ℕ × Book) → hear K b m k ≡ Ok r → HearOk K b m k r
hear_ok K b m k r h = go (reach b m k) refl h
  where
    at : (o : OpenCommand) → Reached b m k o → (p : Phase) → o.phase m ≡ p → hear_in K b m k o p ≡ Ok r → HearOk K b m k r
    at o q Sent e h = record { o = o; reached = q; was = e; result = sym (ok_inj h) }
    at o q (Heard t) e h = absurd (err_ok h)
    at o q (Gathered t) e h = absurd (err_ok h)
    at o q Settled e h = absurd (err_ok h)
    at o q Run e h = absurd (err_ok h)

    go : (x : Outcome OpenCommand) → reach b m k ≡ x → hear_at K b m k x ≡ Ok r → HearOk K b m k r
    go (Err e) p h = absurd (err_ok h)
    go (Ok o) p h = at o (reach_ok b m k o p) (o.phase m) refl h

pub record GatherOk (b : Book) (m k : ℕ) (r : Option ℕ × Book) : Type 0 where
  pub o : OpenCommand
  pub t : ℕ
  pub reached : Reached b m k o
  pub was : o.phase m ≡ Heard t
  pub result : r ≡ gathered_now b k (with_phase o m (Gathered t))

pub gather_ok : (b : Book) (m k : ℕ) (r : Option ℕ × Book) → gather b m k ≡ Ok r → GatherOk b m k r
gather_ok b m k r h = go (reach b m k) refl h
  where
    at : (o : OpenCommand) → Reached b m k o → (p : Phase) → o.phase m ≡ p → gather_in b m k o p ≡ Ok r → GatherOk b m k r
    at o q Sent e h = absurd (err_ok h)
    at o q (Heard t) e h = record { o = o; t = t; reached = q; was = e; result = sym (ok_inj h) }
    at o q (Gathered t) e h = absurd (err_ok h)
    at o q Settled e h = absurd (err_ok h)
    at o q Run e h = absurd (err_ok h)

    go : (x : Outcome OpenCommand) → reach b m k ≡ x → gather_at b m k x ≡ Ok r → GatherOk b m k r
    go (Err e) p h = absurd (err_ok h)
    go (Ok o) p h = at o (reach_ok b m k o p) (o.phase m) refl h

pub record SettleOk (b : Book) (m k : ℕ) (r : ℕ × Book) : Type 0 where
  pub o : OpenCommand
  pub f : ℕ
  pub t : ℕ
  pub reached : Reached b m k o
  pub final : o.fixed ≡ Some f
  pub was : o.phase m ≡ Gathered t
  pub result : r ≡ settled_now b m k o (settler b.issued k o.command f (b.member m))

pub settle_ok : (b : Book) (m k : ℕ) (r : ℕ × Book) → settle b m k ≡ Ok r → SettleOk b m k r
settle_ok b m k r h = go (reach b m k) refl h
  where
    at : (o : OpenCommand) → Reached b m k o → (f : Option ℕ) → o.fixed ≡ f → (p : Phase) → o.phase m ≡ p → settle_in b m k o f p ≡ Ok r → SettleOk b m k r
    at o q None g p e h = absurd (err_ok h)
    at o q (Some f) g Sent e h = absurd (err_ok h)
    at o q (Some f) g (Heard t) e h = absurd (err_ok h)
    at o q (Some f) g (Gathered t) e h =
        record { o = o; f = f; t = t; reached = q; final = g; was = e; result = sym (ok_inj h) }
    at o q (Some f) g Settled e h = absurd (err_ok h)
    at o q (Some f) g Run e h = absurd (err_ok h)

    go : (x : Outcome OpenCommand) → reach b m k ≡ x → settle_at b m k x ≡ Ok r → SettleOk b m k r
    go (Err e) p h = absurd (err_ok h)
    go (Ok o) p h = at o (reach_ok b m k o p) o.fixed refl (o.phase m) refl h

pub record RunOk (K : Kind) (b : Book) (m : ℕ) (r : Ran) : Type 0 where
  pub o : OpenCommand
  pub pair : Pair
  pub inside : m < b.members
  pub first : earliest_below (suc b.issued) (ready_at K b m) ≡ Some pair
  pub there : b.table pair.1 ≡ Some o
  pub result : r ≡ record { pair = pair; command = o.command; book = with_command b pair.1 (left (with_phase o m Run)) }

pub run_ok : (K : Kind) (b : Book) (m : ℕ) (r : Ran) → run K b m ≡ Ok r → RunOk K b m r
run_ok K b m r h =
    let p = demand_ok _ _ _ _ h in
    go (earliest_below (suc b.issued) (ready_at K b m)) refl (ltb-true _ _ p.0) p.1
  where
    at : (p : Pair) → earliest_below (suc b.issued) (ready_at K b m) ≡ Some p → m < b.members → (e : Option OpenCommand) → b.table p.1 ≡ e → run_taken b m p e ≡ Ok r → RunOk K b m r
    at p q i None e h = absurd (err_ok h)
    at p q i (Some o) e h =
        record { o = o; pair = p; inside = i; first = q; there = e; result = sym (ok_inj h) }

    go : (x : Option Pair) → earliest_below (suc b.issued) (ready_at K b m) ≡ x → m < b.members → run_earliest b m x ≡ Ok r → RunOk K b m r
    go None p i h = absurd (err_ok h)
    go (Some p) q i h = at p q i (b.table p.1) refl h
