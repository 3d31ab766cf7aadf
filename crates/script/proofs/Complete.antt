-- Texts that write a step are read as that step.
use Rattle.std.proofs.Common.{◌≡◌, ℕ, ◌^◌, ◌<◌, ◌≤◌, cond, eqb, List, [], ◌∷◌, length, get_or, Some, None, Ok, Err, decimal, Option, ok_or, option_and_then, refl, ap, ◌∙◌, arith}
use Rattle.std.proofs.lemmas.Bool.{le-leb}
use Rattle.machine.specs.declared.command.Command.{Command}
use Rattle.ordering.specs.declared.calls.Call.{Call}
use Rattle.ordering.specs.declared.calls.Call.TheVariants.{Hear, Gather, Settle}
use Rattle.record.specs.Bytes.{Piece, piece}
use Rattle.script.specs.declared.faults.Cause.TheVariants.{BadNumber, NotEmpty}
use Rattle.script.specs.declared.steps.CommandKind.{CommandKind}
use Rattle.script.specs.declared.steps.CommandKind.TheVariants.{Set as SetKind, Shift as ShiftKind, Couple as CoupleKind, Mark as MarkKind}
use Rattle.script.specs.declared.steps.Letter.{Letter}
use Rattle.script.specs.declared.steps.Letter.TheVariants.{O, S, H, G, T, R}
use Rattle.script.specs.declared.steps.MachineKind.{MachineKind}
use Rattle.script.specs.declared.steps.MachineKind.TheVariants.{AxisBank, Recorder, Tally}
use Rattle.script.specs.declared.steps.Step.{Step}
use Rattle.script.specs.Fields.{Read, any_number, at_most, command_kind, empty, fault, kind_of, machine_kind, number_as, up_to}
use Rattle.script.specs.Numbers.{numeral}
use Rattle.script.specs.Steps.{Pieces, and_then, asks, axis_and_word, blank, command_by, command_of, destination_of, letter_of, named_step, step_by}
use Rattle.script.specs.Texts.{CommandText, StepText, couple, gathers, hears, kind_number, mark, opens, runs, sends, set, settles, shift}
use Rattle.script.proofs.Meaning.{fields, letter_byte}
use Rattle.script.proofs.Numerals.{reads_numeral}

-- What each kind of field is read as.
number_there : (p : Piece) (n : ℕ) → p.text ≡ decimal n → n < 10 ^ 15 → numeral p.text ≡ Some n
number_there p n e small = (reads_numeral p.text).found n small e

number_as_ok : {A : Type 0} (of : ℕ → Option A) (p : Piece) (n : ℕ) (x : A) → p.text ≡ decimal n → n < 10 ^ 15 → of n ≡ Some x → number_as of p ≡ Ok x
number_as_ok of p n x e small is =
    ap (λ o. ok_or (option_and_then of o) (fault BadNumber p.at)) (number_there p n e small) ∙ ap (λ o. ok_or o (fault BadNumber p.at)) is

any_ok : (p : Piece) (n : ℕ) → p.text ≡ decimal n → n < 10 ^ 15 → any_number p ≡ Ok n
any_ok p n e small = number_as_ok Some p n n e small refl

up_ok : (most : ℕ) (p : Piece) (n : ℕ) → most < 10 ^ 15 → p.text ≡ decimal n → n ≤ most → up_to most p ≡ Ok n
up_ok most p n lim e le = number_as_ok (at_most most) p n n e (omega arith) (ap (λ t. cond t (Some n) None) (le-leb n most le))

empty_ok : (p : Piece) → p.text ≡ [] → empty p ≡ Ok tt
empty_ok p e = ap (λ t. cond (eqb (length t) 0) (Ok tt) (Err (fault NotEmpty p.at))) e

kind_ok : (p : Piece) (k : MachineKind) → p.text ≡ decimal (kind_number k) → kind_of p ≡ Ok k
kind_ok p AxisBank e = number_as_ok machine_kind p 1 AxisBank e (omega arith) refl
kind_ok p Recorder e = number_as_ok machine_kind p 2 Recorder e (omega arith) refl
kind_ok p Tally e = number_as_ok machine_kind p 3 Tally e (omega arith) refl

letter_ok : (p : Piece) (x : Letter) → p.text ≡ letter_byte x ∷ [] → letter_of p ≡ Ok x
letter_ok p O e = ap (λ t. letter_of (piece t p.at)) e
letter_ok p S e = ap (λ t. letter_of (piece t p.at)) e
letter_ok p H e = ap (λ t. letter_of (piece t p.at)) e
letter_ok p G e = ap (λ t. letter_of (piece t p.at)) e
letter_ok p T e = ap (λ t. letter_of (piece t p.at)) e
letter_ok p R e = ap (λ t. letter_of (piece t p.at)) e

-- One field after the other.
then_ok : {A B : Type 0} (r : Read A) (more : A → Read B) (x : A) → r ≡ Ok x → and_then r more ≡ more x
then_ok r more x e = ap (λ z. and_then z more) e

blank_ok : {A : Type 0} (p : Piece) (more : Read A) → p.text ≡ [] → blank p more ≡ more
blank_ok p more e = then_ok (empty p) (λ _. more) tt (empty_ok p e)

module _ (f : Pieces) where
  axis_and_word_ok : (axis word : ℕ) → axis ≤ 255 → word ≤ 4294967295 → f.first.text ≡ decimal axis → f.second.text ≡ decimal word → axis_and_word f ≡ Ok (axis, word)
  axis_and_word_ok axis word a b v w =
      then_ok (up_to 255 f.first) _ axis (up_ok 255 f.first axis (omega arith) v a) ∙ then_ok (up_to 4294967295 f.second) _ word (up_ok 4294967295 f.second word (omega arith) w b)

  of_kind : (n : ℕ) (k : CommandKind) → n < 10 → command_kind n ≡ Some k → f.class.text ≡ decimal n → command_of f ≡ command_by k f
  of_kind n k few is e = then_ok (number_as command_kind f.class) (λ z. command_by z f) k (number_as_ok command_kind f.class n k e (omega arith) is)

  command_ok : {c : Command} {class first second : List ℕ} → CommandText c class first second → f.class.text ≡ class → f.first.text ≡ first → f.second.text ≡ second → command_of f ≡ Ok c
  command_ok (set {axis} {value} a b) u v w =
      of_kind 1 SetKind (omega arith) refl u ∙ then_ok (axis_and_word f) _ (axis, value) (axis_and_word_ok axis value a b v w)
  command_ok (shift {axis} {amount} a b) u v w =
      of_kind 2 ShiftKind (omega arith) refl u ∙ then_ok (axis_and_word f) _ (axis, amount) (axis_and_word_ok axis amount a b v w)
  command_ok (couple {source} {to} a b) u v w =
      of_kind 3 CoupleKind (omega arith) refl u ∙ (then_ok (up_to 255 f.first) _ source (up_ok 255 f.first source (omega arith) v a) ∙ then_ok (up_to 255 f.second) _ to (up_ok 255 f.second to (omega arith) w b))
  command_ok (mark {code} a) u v w =
      of_kind 4 MarkKind (omega arith) refl u ∙ (then_ok (up_to 4294967295 f.first) _ code (up_ok 4294967295 f.first code (omega arith) v a) ∙ blank_ok f.second _ w)

module _ (l : Piece) (f : Pieces) where
  -- The text of field i.
  at : {ts : List (List ℕ)} (i : ℕ) → fields l f ≡ ts → get_or (fields l f) i [] ≡ get_or ts i []
  at i e = ap (λ xs. get_or xs i []) e

  lettered : (x : Letter) → l.text ≡ letter_byte x ∷ [] → and_then (letter_of l) (λ y. step_by y f) ≡ step_by x f
  lettered x e = then_ok (letter_of l) (λ y. step_by y f) x (letter_ok l x e)

  named_ok : (make : ℕ → ℕ → Call) (m k : ℕ) → m ≤ 255 → k < 10 ^ 15 → f.member.text ≡ decimal m → f.number.text ≡ decimal k → f.set.text ≡ [] → f.class.text ≡ [] → f.first.text ≡ [] → f.second.text ≡ [] → named_step make f ≡ Ok (asks (make m k))
  named_ok make m k a b e₁ e₂ e₃ e₄ e₅ e₆ =
      then_ok (destination_of f) (λ d. Ok (asks (make d.0 d.1))) (m, k)
      (then_ok (up_to 255 f.member) _ m (up_ok 255 f.member m (omega arith) e₁ a) ∙ (then_ok (any_number f.number) _ k (any_ok f.number k e₂ b) ∙ (blank_ok f.set _ e₃ ∙ (blank_ok f.class _ e₄ ∙ (blank_ok f.first _ e₅ ∙ blank_ok f.second _ e₆)))))

  pub fields_read : {s : Step} {ts : List (List ℕ)} → StepText s ts → fields l f ≡ ts → and_then (letter_of l) (λ x. step_by x f) ≡ Ok s
  fields_read (opens {n} {last} {k} a b) e =
      lettered O (at 0 e) ∙ (then_ok (up_to 255 f.member) _ n (up_ok 255 f.member n (omega arith) (at 1 e) a) ∙ (then_ok (any_number f.number) _ last (any_ok f.number last (at 2 e) b) ∙ (blank_ok f.set _ (at 3 e) ∙ (then_ok (kind_of f.class) _ k (kind_ok f.class k (at 4 e)) ∙ (blank_ok f.first _ (at 5 e) ∙ blank_ok f.second _ (at 6 e))))))
  fields_read (sends {sender} {to} {c} a b w) e =
      lettered S (at 0 e) ∙ (then_ok (up_to 255 f.member) _ sender (up_ok 255 f.member sender (omega arith) (at 1 e) a) ∙ (blank_ok f.number _ (at 2 e) ∙ (then_ok (up_to 65535 f.set) _ to (up_ok 65535 f.set to (omega arith) (at 3 e) b) ∙ then_ok (command_of f) _ c (command_ok f w (at 4 e) (at 5 e) (at 6 e)))))
  fields_read (hears {m} {k} a b) e = lettered H (at 0 e) ∙ named_ok Hear m k a b (at 1 e) (at 2 e) (at 3 e) (at 4 e) (at 5 e) (at 6 e)
  fields_read (gathers {m} {k} a b) e = lettered G (at 0 e) ∙ named_ok Gather m k a b (at 1 e) (at 2 e) (at 3 e) (at 4 e) (at 5 e) (at 6 e)
  fields_read (settles {m} {k} a b) e = lettered T (at 0 e) ∙ named_ok Settle m k a b (at 1 e) (at 2 e) (at 3 e) (at 4 e) (at 5 e) (at 6 e)
  fields_read (runs {m} a) e =
      lettered R (at 0 e) ∙ (then_ok (up_to 255 f.member) _ m (up_ok 255 f.member m (omega arith) (at 1 e) a) ∙ (blank_ok f.number _ (at 2 e) ∙ (blank_ok f.set _ (at 3 e) ∙ (blank_ok f.class _ (at 4 e) ∙ (blank_ok f.first _ (at 5 e) ∙ blank_ok f.second _ (at 6 e))))))
