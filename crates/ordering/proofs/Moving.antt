-- The tie between history and line after a hear, gather, settle or run: the phases move at one place, and the rest
-- follows from that.
use Rattle.std.proofs.Common.{◌≡◌, ℕ, Bool, true, false, cond, eqb, Some, Option, sym, refl, ap, ◌∙◌, subst}
use Rattle.std.proofs.lemmas.Bool.{eqb-true, eqb-false}
use Rattle.ordering.specs.declared.calls.Phase.{Phase}
use Rattle.ordering.specs.declared.calls.Phase.TheVariants.{Sent}
use Rattle.ordering.specs.Histories.{Account, put_twice}
use Rattle.ordering.specs.Lines.{OpenCommand, Book}
use Rattle.ordering.specs.Searches.{put, names}
use Rattle.ordering.proofs.Tied.{Tied, phase_of, phase_by, phase_at, issue_of}

-- The table with e at k, where the command o stood, and e has o's phases but p at m.
module _ (a : Account) (b : Book) (k m : ℕ) (o : OpenCommand) (p : Phase) (e : Option OpenCommand) (h : Tied a b) (there : b.table k ≡ Some o) (to : names o.set m ≡ true) (like : (q : ℕ) → names o.set q ≡ true → phase_at e q ≡ put m p o.phase q) where
  pub phases_moved : (j q : ℕ) → phase_by (a.sent_as j) (put k e b.table j) q ≡ put_twice k m p (phase_of a b) j q
  phases_moved j q = by_number (eqb k j) refl
    where
      by_member : (t : Bool) → eqb m q ≡ t → (u : Bool) → names o.set q ≡ u → cond u (phase_at e q) Sent ≡ cond t p (cond u (o.phase q) Sent)
      by_member true i true n = like q n ∙ ap (λ t. cond t p (o.phase q)) i
      by_member true i false n = absurd (Rattle.std.proofs.lemmas.Bool.false≢true (sym n ∙ subst (λ x. names o.set x ≡ true) (eqb-true m q i) to))
      by_member false i true n = like q n ∙ ap (λ t. cond t p (o.phase q)) i
      by_member false i false n = refl

      old : phase_of a b k q ≡ cond (names o.set q) (o.phase q) Sent
      old = ap (λ x. phase_by x (b.table k) q) (h.sent k o there) ∙ ap (λ x. phase_by (Some (issue_of o)) x q) there

      by_number : (t : Bool) → eqb k j ≡ t → phase_by (a.sent_as j) (cond t e (b.table j)) q ≡ cond t (put m p (phase_of a b k)) (phase_of a b j) q
      by_number true i =
          let same : k ≡ j = eqb-true k j i in
          ap (λ x. phase_by x e q) (ap a.sent_as (sym same) ∙ h.sent k o there) ∙ (by_member (eqb m q) refl (names o.set q) refl ∙ ap (λ x. cond (eqb m q) p x) (sym old))
      by_number false i = refl

  -- The command stays as it was sent.
  pub sent_moved : ((x : OpenCommand) → e ≡ Some x → issue_of x ≡ issue_of o) → (j : ℕ) (x : OpenCommand) → put k e b.table j ≡ Some x → a.sent_as j ≡ Some (issue_of x)
  sent_moved own j x = go (eqb k j) refl
    where
      go : (t : Bool) → eqb k j ≡ t → cond t e (b.table j) ≡ Some x → a.sent_as j ≡ Some (issue_of x)
      go true i q = ap a.sent_as (sym (eqb-true k j i)) ∙ (h.sent k o there ∙ ap Some (sym (own x q)))
      go false i q = h.sent j x q

-- A fact of each open command, after a change at k.
pub table_cases : (b : Book) (k : ℕ) (e : Option OpenCommand) (P : ℕ → OpenCommand → Type 0) → ((x : OpenCommand) → e ≡ Some x → P k x) → ((j : ℕ) (x : OpenCommand) → (k ≡ j → ⊥) → b.table j ≡ Some x → P j x) → (j : ℕ) (x : OpenCommand) → put k e b.table j ≡ Some x → P j x
table_cases b k e P here away j x = go (eqb k j) refl
  where
    go : (t : Bool) → eqb k j ≡ t → cond t e (b.table j) ≡ Some x → P j x
    go true i q = subst (λ y. P y x) (eqb-true k j i) (here x q)
    go false i q = away j x (eqb-false k j i) q
