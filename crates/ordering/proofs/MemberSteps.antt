-- A hear, a settle and a run at one member keep what holds there.
use Rattle.std.proofs.lemmas.Option.{none-some, same_Some}
use Rattle.std.proofs.Common.{◌≡◌, ℕ, suc, ◌<◌, ◌≤◌, Bool, true, false, cond, not, ◌&&◌, eqb, ltb, ◌⊎◌, List, [], ◌∷◌, Some, None, Option, sym, refl, ap, ◌∙◌, subst, inl, inr, ⊎_elim, arith}
use Rattle.std.proofs.lemmas.Bool.{or_parts, or_left, or_right, or_cases, eqb-true, eqb-false, eq-eqb, ltb-true, ltb-false, false≢true}
use Rattle.machine.specs.declared.command.Command.{Command}
use Rattle.machine.specs.Kinds.{Kind, Laws}
use Rattle.ordering.specs.Lines.{Member}
use Rattle.ordering.specs.Ordering.{Earlier, has, Entry, pair_of, Listed, Each}
use Rattle.ordering.specs.Searches.{put, present, any_below}
use Rattle.ordering.specs.Steps.{hearer, must_rise, is_full, clashes, risen, remember, settler}
use Rattle.ordering.proofs.AtMember.{AtMember, Clash, Ascending, EntryAt}
use Rattle.ordering.proofs.Basics.{put_same, put_other, put_cases}
use Rattle.ordering.proofs.Bounded.{any_none}
use Rattle.ordering.proofs.Feeding.{insert, each_map, each_insert, listed_new, listed_old, rising_insert, Passable, plain_insert}
use Rattle.ordering.proofs.Pairs.{prior_earlier, earlier_prior, earlier_not}

pub clash_sym : (K : Kind) → Laws K → (x y : Option Command) → Clash K x y → Clash K y x
clash_sym K L None y h = absurd h
clash_sym K L (Some c) None h = absurd h
clash_sym K L (Some c) (Some d) h = L.symmetric d c ∙ h

-- Whoever is in a list is not one who is out of it.
pub has_apart : (j k : ℕ) (js : List ℕ) → has j js ≡ true → has k js ≡ false → j ≡ k → ⊥
has_apart j k js h g e = false≢true (sym g ∙ subst (λ i. has i js ≡ true) e h)

-- A list of what ran sees only where those stand.
pub ascending_stand : (K : Kind) (cmd : ℕ → Option Command) (stand stand' : ℕ → Option ℕ) (js : List ℕ) → ((k : ℕ) → has k js ≡ true → stand' k ≡ stand k) → Ascending K cmd stand js → Ascending K cmd stand' js
ascending_stand K cmd stand stand' [] s h = tt
ascending_stand K cmd stand stand' (j ∷ js) s h = (
  λ k f t i p q c. h.0 k f t i (sym (s k (or_right (eqb j k) (has k js) i)) ∙ p) (sym (s j (or_left (eqb j j) (has j js) (eq-eqb j j refl))) ∙ q) c,
  ascending_stand K cmd stand stand' js (λ k i. s k (or_right (eqb j k) (has k js) i)) h.1,
)

pub right_stand : (cmd : ℕ → Option Command) (stand stand' : ℕ → Option ℕ) (js : List ℕ) (es : List Entry) → ((k : ℕ) → has k js ≡ true → stand' k ≡ stand k) → Each (EntryAt cmd stand js) es → Each (EntryAt cmd stand' js) es
right_stand cmd stand stand' js es s h =
    each_map (EntryAt cmd stand js) (EntryAt cmd stand' js) es (λ e r. (r.0, s e.number r.0 ∙ r.1, r.2)) h

-- The guarantee of a hear: whatever conflicts with the command and was heard before stands at an earlier pair. All that
-- the rest of the argument knows of the clock rule at a hear.
pub hear_guarantee : (K : Kind) (cmd : ℕ → Option Command) (stand : ℕ → Option ℕ) (issued j : ℕ) (c : Command) (p : Member) → ((k t : ℕ) → stand k ≡ Some t → (t ≤ p.clock) × (t ≡ p.clock → p.remembers k ≡ cmd k)) → ((k : ℕ) (d : Command) → p.remembers k ≡ Some d → k ≤ issued) → cmd j ≡ Some c → (k t : ℕ) → stand k ≡ Some t → Clash K (cmd k) (cmd j) → Earlier (t, k) ((hearer K issued j c p).clock, j)
hear_guarantee K cmd stand issued j c p memory known is k t at clash = go (must_rise K issued c p) refl
  where
    stands : t ≤ p.clock
    stands = (memory k t at).0

    -- a remembered command that conflicts makes the clock rise
    found : (x : Option Command) → p.remembers k ≡ x → Clash K x (Some c) → must_rise K issued c p ≡ false → ⊥
    found None e h r = h
    found (Some d) e h r =
        let quiet = any_none (suc issued) (λ i. clashes K c (p.remembers i)) (or_parts (is_full issued p) (any_below (suc issued) (λ i. clashes K c (p.remembers i))) r).1 k (omega (arith, known k d e)) in
        false≢true (sym quiet ∙ (ap (clashes K c) e ∙ h))

    below : must_rise K issued c p ≡ false → t ≡ p.clock → ⊥
    below r e =
        found (p.remembers k) refl (subst (λ x. Clash K x (Some c)) (sym ((memory k t at).1 e)) (subst (λ y. Clash K (cmd k) y) is clash)) r

    go : (r : Bool) → must_rise K issued c p ≡ r → Earlier (t, k) ((cond r (risen p) p).clock, j)
    go true e = inl (omega (arith, stands))
    go false e = inl (omega (arith, stands, below e))

-- A hear.
pub hear_keeps : (K : Kind) → Laws K → (cmd : ℕ → Option Command) (stand : ℕ → Option ℕ) (runs : List ℕ) (p : Member) (cells : List ℕ) (issued j : ℕ) (c : Command) → ((k : ℕ) (d : Command) → p.remembers k ≡ Some d → k ≤ issued) → cmd j ≡ Some c → has j runs ≡ false → AtMember K cmd stand runs p cells → AtMember K cmd (put j (Some (hearer K issued j c p).clock) stand) runs (hearer K issued j c p) cells
hear_keeps K L cmd stand runs p cells issued j c known is out h =
    record {
      memory = λ k t. put_cases j k (Some now) stand (λ x. x ≡ Some t → (t ≤ now) × (t ≡ now → put j (Some c) kept k ≡ cmd k)) (here k t) (away k t);
      truly = λ k d. put_cases j k (Some c) kept (λ x. x ≡ Some d → cmd k ≡ Some d) (λ e q. subst (λ i. cmd i ≡ Some d) e (is ∙ q)) (λ ne. kept_true k d);
      past = λ i k f t ran fi st un cl. past i k f t ran (sym (elsewhere i ran) ∙ fi) st un cl;
      ascending = ascending_stand K cmd stand stand' runs elsewhere h.ascending;
      once = h.once;
      entries = h.entries;
      right = right_stand cmd stand stand' runs h.entries elsewhere h.right;
      complete = h.complete;
      rising = h.rising;
      same = h.same;
    }
  where
    now : ℕ
    now = (hearer K issued j c p).clock

    stand' : ℕ → Option ℕ
    stand' = put j (Some now) stand

    kept : ℕ → Option Command
    kept = (cond (must_rise K issued c p) (risen p) p).remembers

    elsewhere : (k : ℕ) → has k runs ≡ true → stand' k ≡ stand k
    elsewhere k i = put_other j k (Some now) stand (λ e. has_apart k j runs i out (sym e))

    -- the clock without the new command
    old : (k t : ℕ) → stand k ≡ Some t → (t ≤ now) × (t ≡ now → kept k ≡ cmd k)
    old k t at = go (must_rise K issued c p)
      where
        go : (r : Bool) → (t ≤ (cond r (risen p) p).clock) × (t ≡ (cond r (risen p) p).clock → (cond r (risen p) p).remembers k ≡ cmd k)
        go true = (omega (arith, (h.memory k t at).0), λ e. absurd (omega (arith, (h.memory k t at).0, e)))
        go false = h.memory k t at

    kept_true : (k : ℕ) (d : Command) → kept k ≡ Some d → cmd k ≡ Some d
    kept_true k d = go (must_rise K issued c p)
      where
        go : (r : Bool) → (cond r (risen p) p).remembers k ≡ Some d → cmd k ≡ Some d
        go true e = absurd (none-some _ e)
        go false e = h.truly k d e

    here : (k t : ℕ) → j ≡ k → Some now ≡ Some t → (t ≤ now) × (t ≡ now → put j (Some c) kept k ≡ cmd k)
    here k t e q =
        let v : now ≡ t = same_Some _ _ q in
        (omega arith, λ u. subst (λ i. put j (Some c) kept i ≡ cmd i) e (put_same j (Some c) kept ∙ sym is))

    away : (k t : ℕ) → (j ≡ k → ⊥) → stand k ≡ Some t → (t ≤ now) × (t ≡ now → put j (Some c) kept k ≡ cmd k)
    away k t ne at = ((old k t at).0, λ e. put_other j k (Some c) kept ne ∙ (old k t at).1 e)

    past : (i k f t : ℕ) → has i runs ≡ true → stand i ≡ Some f → stand' k ≡ Some t → has k runs ≡ false → Clash K (cmd k) (cmd i) → Earlier (f, i) (t, k)
    past i k f t ran fi =
        put_cases j k (Some now) stand (λ x. x ≡ Some t → has k runs ≡ false → Clash K (cmd k) (cmd i) → Earlier (f, i) (t, k))
        (λ e q un cl. subst (λ x. Earlier (f, i) (x, k)) (same_Some _ _ q) (subst (λ x. Earlier (f, i) (now, x)) e (hear_guarantee K cmd stand issued j c p h.memory known is i f fi (clash_sym K L (cmd j) (cmd i) (subst (λ x. Clash K (cmd x) (cmd i)) (sym e) cl)))))
        (λ ne q un cl. h.past i k f t ran fi q un cl)

-- What a settle does to a member's clock and memory.
record Settling (j : ℕ) (c : Command) (f : ℕ) (p p' : Member) : Type 0 where
  rises : p.clock ≤ p'.clock
  reaches : f ≤ p'.clock
  keeps_own : f ≡ p'.clock → p'.remembers j ≡ Some c
  keeps_others : (k : ℕ) → (j ≡ k → ⊥) → p.clock ≡ p'.clock → p'.remembers k ≡ p.remembers k
  adds_own : (k : ℕ) (d : Command) → p'.remembers k ≡ Some d → (p.remembers k ≡ Some d) ⊎ ((j ≡ k) × (c ≡ d))

settling : (issued j : ℕ) (c : Command) (f : ℕ) (p : Member) → ((d : Command) → p.remembers j ≡ Some d → c ≡ d) → Settling j c f p (settler issued j c f p)
settling issued j c f p truly = by_clock (ltb p.clock f) refl
  where
    above : p.clock < f → Settling j c f p (record { clock = f; remembers = put j (Some c) (λ i. None) })
    above l =
        record {
          rises = omega (arith, l);
          reaches = omega arith;
          keeps_own = λ e. put_same j (Some c) (λ i. None);
          keeps_others = λ k ne e. absurd (omega (arith, l, e));
          adds_own = λ k d. put_cases j k (Some c) (λ i. None) (λ x. x ≡ Some d → (p.remembers k ≡ Some d) ⊎ ((j ≡ k) × (c ≡ d))) (λ e q. inr (e, same_Some _ _ q)) (λ ne q. absurd (none-some _ q));
        }

    lifted : f ≤ p.clock → Settling j c f p (risen p)
    lifted l =
        record {
          rises = omega arith;
          reaches = omega (arith, l);
          keeps_own = λ e. absurd (omega (arith, l, e));
          keeps_others = λ k ne e. absurd (omega (arith, e));
          adds_own = λ k d q. absurd (none-some _ q);
        }

    added : f ≤ p.clock → Settling j c f p (remember j c p)
    added l =
        record {
          rises = omega arith;
          reaches = l;
          keeps_own = λ e. put_same j (Some c) p.remembers;
          keeps_others = λ k ne e. put_other j k (Some c) p.remembers ne;
          adds_own = λ k d. put_cases j k (Some c) p.remembers (λ x. x ≡ Some d → (p.remembers k ≡ Some d) ⊎ ((j ≡ k) × (c ≡ d))) (λ e q. inr (e, same_Some _ _ q)) (λ ne q. inl q);
        }

    known : f ≤ p.clock → (f ≡ p.clock → p.remembers j ≡ Some c) → Settling j c f p p
    known l own =
        record { rises = omega arith; reaches = l; keeps_own = own; keeps_others = λ k ne e. refl; adds_own = λ k d q. inl q }

    by_room : f ≤ p.clock → (t : Bool) → Settling j c f p (cond t (risen p) (remember j c p))
    by_room l true = lifted l
    by_room l false = added l

    there : (x : Option Command) → p.remembers j ≡ x → not (present x) ≡ false → p.remembers j ≡ Some c
    there None e h = absurd (false≢true (sym h))
    there (Some d) e h = e ∙ ap Some (sym (truly d e))

    quiet : (eqb f p.clock && not (present (p.remembers j))) ≡ false → f ≡ p.clock → p.remembers j ≡ Some c
    quiet h e = there (p.remembers j) refl (subst (λ t. (t && not (present (p.remembers j))) ≡ false) (eq-eqb f p.clock e) h)

    by_memory : f ≤ p.clock → (t : Bool) → (eqb f p.clock && not (present (p.remembers j))) ≡ t → Settling j c f p (cond t (cond (is_full issued p) (risen p) (remember j c p)) p)
    by_memory l true e = by_room l (is_full issued p)
    by_memory l false e = known l (quiet e)

    by_clock : (t : Bool) → ltb p.clock f ≡ t → Settling j c f p (cond t (record { clock = f; remembers = put j (Some c) (λ i. None) }) (cond (eqb f p.clock && not (present (p.remembers j))) (cond (is_full issued p) (risen p) (remember j c p)) p))
    by_clock true e = above (ltb-true _ _ e)
    by_clock false e = by_memory (ltb-false _ _ e) (eqb f p.clock && not (present (p.remembers j))) refl

-- A settle.
pub settle_keeps : (K : Kind) → (cmd : ℕ → Option Command) (stand : ℕ → Option ℕ) (runs : List ℕ) (p : Member) (cells : List ℕ) (issued j : ℕ) (c : Command) (t f : ℕ) → cmd j ≡ Some c → has j runs ≡ false → stand j ≡ Some t → t ≤ f → AtMember K cmd stand runs p cells → AtMember K cmd (put j (Some f) stand) runs (settler issued j c f p) cells
settle_keeps K cmd stand runs p cells issued j c t f is out at up h =
    record {
      memory = λ k u. put_cases j k (Some f) stand (λ x. x ≡ Some u → (u ≤ p'.clock) × (u ≡ p'.clock → p'.remembers k ≡ cmd k)) (here k u) (away k u);
      truly = λ k d q. ⊎_elim (λ o. h.truly k d o) (λ n. subst (λ i. cmd i ≡ Some d) n.0 (is ∙ ap Some n.1)) (s.adds_own k d q);
      past = λ i k g u ran gi st un cl. past i k g u ran (sym (elsewhere i ran) ∙ gi) st un cl;
      ascending = ascending_stand K cmd stand stand' runs elsewhere h.ascending;
      once = h.once;
      entries = h.entries;
      right = right_stand cmd stand stand' runs h.entries elsewhere h.right;
      complete = h.complete;
      rising = h.rising;
      same = h.same;
    }
  where
    p' : Member
    p' = settler issued j c f p

    s : Settling j c f p p'
    s = settling issued j c f p (λ d e. same_Some _ _ (sym is ∙ h.truly j d e))

    stand' : ℕ → Option ℕ
    stand' = put j (Some f) stand

    elsewhere : (k : ℕ) → has k runs ≡ true → stand' k ≡ stand k
    elsewhere k i = put_other j k (Some f) stand (λ e. has_apart k j runs i out (sym e))

    here : (k u : ℕ) → j ≡ k → Some f ≡ Some u → (u ≤ p'.clock) × (u ≡ p'.clock → p'.remembers k ≡ cmd k)
    here k u e q =
        let v : f ≡ u = same_Some _ _ q in
        (omega (arith, s.reaches), λ w. subst (λ i. p'.remembers i ≡ cmd i) e (s.keeps_own (v ∙ w) ∙ sym is))

    away : (k u : ℕ) → (j ≡ k → ⊥) → stand k ≡ Some u → (u ≤ p'.clock) × (u ≡ p'.clock → p'.remembers k ≡ cmd k)
    away k u ne a =
        let m = h.memory k u a in
        let r = s.rises in
        (omega arith, λ w. s.keeps_others k ne (omega arith) ∙ m.1 (omega arith))

    past : (i k g u : ℕ) → has i runs ≡ true → stand i ≡ Some g → stand' k ≡ Some u → has k runs ≡ false → Clash K (cmd k) (cmd i) → Earlier (g, i) (u, k)
    past i k g u ran gi =
        put_cases j k (Some f) stand (λ x. x ≡ Some u → has k runs ≡ false → Clash K (cmd k) (cmd i) → Earlier (g, i) (u, k))
        (λ e q un cl. later (earlier_prior (g, i) (t, k) (h.past i k g t ran gi (subst (λ x. stand x ≡ Some t) e at) un cl)) (same_Some _ _ q))
        (λ ne q un cl. h.past i k g u ran gi q un cl)
      where
        later : (g ≤ t) × (g ≡ t → i < k) → f ≡ u → Earlier (g, i) (u, k)
        later w v = prior_earlier (g, i) (u, k) (omega arith)

-- A run.
pub run_keeps : (K : Kind) → Laws K → (cmd : ℕ → Option Command) (stand : ℕ → Option ℕ) (runs : List ℕ) (p : Member) (cells : List ℕ) (j : ℕ) (c : Command) (f : ℕ) → cmd j ≡ Some c → has j runs ≡ false → stand j ≡ Some f → ((k t : ℕ) → (j ≡ k → ⊥) → stand k ≡ Some t → has k runs ≡ false → Clash K (cmd k) (cmd j) → Earlier (f, j) (t, k)) → AtMember K cmd stand runs p cells → AtMember K cmd stand (j ∷ runs) p (K.next cells c)
run_keeps K L cmd stand runs p cells j c f is out at ready h =
    record {
      memory = h.memory;
      truly = h.truly;
      past = past;
      ascending = (λ k g t i p q cl. h.past k j g t i p q out (clash_sym K L (cmd k) (cmd j) cl), h.ascending);
      once = (out, h.once);
      entries = insert e h.entries;
      right = each_insert (EntryAt cmd stand (j ∷ runs)) e h.entries (or_left (eqb j j) (has j runs) (eq-eqb j j refl), at, is) (each_map (EntryAt cmd stand runs) (EntryAt cmd stand (j ∷ runs)) h.entries (λ x r. (or_right (eqb j x.number) (has x.number runs) r.0, r.1, r.2)) h.right);
      complete = λ k i. ⊎_elim (λ q. subst (λ x. Listed x (insert e h.entries)) (eqb-true j k q) (listed_new e h.entries)) (λ q. listed_old e k h.entries (h.complete k q)) (or_cases (eqb j k) (has k runs) i);
      rising = rising_insert e h.entries (each_map (EntryAt cmd stand runs) (λ y. j ≡ y.number → ⊥) h.entries (λ y r q. has_apart y.number j runs r.0 out (sym q)) h.right) h.rising;
      same = ap (λ s. K.next s c) h.same ∙ plain_insert K L e h.entries (each_map (EntryAt cmd stand runs) (Passable K e) h.entries passable h.right);
    }
  where
    e : Entry
    e = record { final = f; number = j; command = c }

    passable : (y : Entry) → EntryAt cmd stand runs y → Passable K e y
    passable y r later = go (K.conflict y.command c) refl
      where
        go : (t : Bool) → K.conflict y.command c ≡ t → t ≡ false
        go false q = refl
        go true q =
            absurd (earlier_not (f, j) (pair_of y) later (h.past y.number j y.final f r.0 r.1 at out (subst (λ x. Clash K (cmd j) x) (sym r.2) (subst (λ x. Clash K x (Some y.command)) (sym is) (L.symmetric c y.command ∙ q)))))

    past : (i k g t : ℕ) → has i (j ∷ runs) ≡ true → stand i ≡ Some g → stand k ≡ Some t → has k (j ∷ runs) ≡ false → Clash K (cmd k) (cmd i) → Earlier (g, i) (t, k)
    past i k g t ran gi st un cl =
        let un' = or_parts (eqb j k) (has k runs) un in
        ⊎_elim
        (λ q. first (eqb-true j i q) (eqb-false j k un'.0) un'.1)
        (λ q. h.past i k g t q gi st un'.1 cl)
        (or_cases (eqb j i) (has i runs) ran)
      where
        first : j ≡ i → (j ≡ k → ⊥) → has k runs ≡ false → Earlier (g, i) (t, k)
        first q ne un =
            subst (λ x. Earlier x (t, k)) (pair_path (same_Some _ _ (sym at ∙ (ap stand q ∙ gi))) q) (ready k t ne st un (subst (λ x. Clash K (cmd k) (cmd x)) (sym q) cl))
          where
            pair_path : f ≡ g → j ≡ i → ◌≡◌ {A = ℕ × ℕ} (f, j) (g, i)
            pair_path u v = cc

-- The commands known only by what stands or is remembered: a new command changes nothing.
pub more_commands : (K : Kind) (cmd cmd' : ℕ → Option Command) (stand : ℕ → Option ℕ) (runs : List ℕ) (p : Member) (cells : List ℕ) → ((k t : ℕ) → stand k ≡ Some t → cmd' k ≡ cmd k) → ((k : ℕ) (c : Command) → p.remembers k ≡ Some c → cmd' k ≡ cmd k) → AtMember K cmd stand runs p cells → AtMember K cmd' stand runs p cells
more_commands K cmd cmd' stand runs p cells s m h =
    record {
      memory = λ k t a. ((h.memory k t a).0, λ e. (h.memory k t a).1 e ∙ sym (s k t a));
      truly = λ k c q. m k c q ∙ h.truly k c q;
      past = λ j k f t ran fj tk un cl. h.past j k f t ran fj tk un (clash k j t f tk fj cl);
      ascending = ascending runs h.ascending;
      once = h.once;
      entries = h.entries;
      right = each_map (EntryAt cmd stand runs) (EntryAt cmd' stand runs) h.entries (λ e r. (r.0, r.1, s e.number e.final r.1 ∙ r.2)) h.right;
      complete = h.complete;
      rising = h.rising;
      same = h.same;
    }
  where
    clash : (k j t f : ℕ) → stand k ≡ Some t → stand j ≡ Some f → Clash K (cmd' k) (cmd' j) → Clash K (cmd k) (cmd j)
    clash k j t f tk fj cl =
        subst (λ x. Clash K x (cmd j)) (s k t tk) (subst (λ x. Clash K (cmd' k) x) (s j f fj) cl)

    ascending : (js : List ℕ) → Ascending K cmd stand js → Ascending K cmd' stand js
    ascending [] a = tt
    ascending (j ∷ js) a = (λ k f t i p q cl. a.0 k f t i p q (clash k j f t p q cl), ascending js a.1)
