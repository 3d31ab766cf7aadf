-- A record is read as a step exactly where its texts write that step.
use Rattle.std.proofs.Common.{◌≡◌, ℕ, ◌^◌, ◌<◌, ◌≤◌, List, [], ◌∷◌, Some, None, Ok, Err, decimal, Option, ok_or, option_and_then, sym, refl, ap, ◌∙◌, subst, arith}
use Rattle.std.proofs.lemmas.List.{nil_from_length}
use Rattle.std.proofs.lemmas.Bool.Decides.{nat_tests}
use Rattle.machine.specs.declared.command.Command.{Command}
use Rattle.ordering.specs.declared.calls.Call.{Call}
use Rattle.ordering.specs.declared.calls.Call.TheVariants.{Open, Send, Hear, Gather, Settle, Run}
use Rattle.ordering.proofs.Basics.{some_inj}
use Rattle.record.specs.Bytes.{Piece, piece}
use Rattle.script.specs.declared.faults.Cause.TheVariants.{BadNumber}
use Rattle.script.specs.declared.steps.CommandKind.{CommandKind}
use Rattle.script.specs.declared.steps.CommandKind.TheVariants.{Set as SetKind, Shift as ShiftKind, Couple as CoupleKind, Mark as MarkKind}
use Rattle.script.specs.declared.steps.Letter.{Letter}
use Rattle.script.specs.declared.steps.Letter.TheVariants.{O, S, H, G, T, R}
use Rattle.script.specs.declared.steps.MachineKind.{MachineKind}
use Rattle.script.specs.declared.steps.Step.{Step}
use Rattle.script.specs.Fields.{Read, any_number, at_most, command_kind, empty, fault, kind_of, machine_kind, number_as, up_to}
use Rattle.script.specs.Numbers.{numeral}
use Rattle.script.specs.Steps.{Pieces, and_then, asks, axis_and_word, blank, command_by, command_of, destination_of, letter_of, named_step, open_step, run_step, send_step, step_by}
use Rattle.script.specs.Texts.{CommandText, StepText, couple, gathers, hears, kind_number, mark, opens, runs, sends, set, settles, shift}
use Rattle.script.proofs.Numerals.{reads_numeral}

-- What is read, if it is read, has the property.
abbrev pub Has : {A : Type 0} → (A → Type 0) → Read A → Type 0
Has P (Ok x) = P x
Has P (Err e) = Unit {0}

pub has_then : {A B : Type 0} (P : A → Type 0) (Q : B → Type 0) (r : Read A) (more : A → Read B) → Has P r → ((x : A) → P x → Has Q (more x)) → Has Q (and_then r more)
has_then P Q (Ok x) more p h = h x p
has_then P Q (Err e) more p h = tt

has_if : {A : Type 0} (P : A → Type 0) (r : Read A) → ((x : A) → r ≡ Ok x → P x) → Has P r
has_if P (Ok x) h = h x refl
has_if P (Err e) h = tt

has_as : {A : Type 0} (P Q : A → Type 0) (r : Read A) → Has P r → ((x : A) → P x → Q x) → Has Q r
has_as P Q (Ok x) p h = h x p
has_as P Q (Err e) p h = tt

-- A text that writes a number of at most fifteen digits, which stands for a value.
record Writes {A : Type 0} (of : ℕ → Option A) (text : List ℕ) (x : A) : Type 0 where
  number : ℕ
  digits : text ≡ decimal number
  few : number < 10 ^ 15
  stands : of number ≡ Some x

number_as_says : {A : Type 0} (of : ℕ → Option A) (p : Piece) → Has (Writes of p.text) (number_as of p)
number_as_says {A} of p = go (numeral p.text) refl
  where
    by : (n : ℕ) → numeral p.text ≡ Some n → (o : Option A) → of n ≡ o → Has (Writes of p.text) (ok_or o (fault BadNumber p.at))
    by n e None is = tt
    by n e (Some x) is = let w = (reads_numeral p.text).only n e in record { number = n; digits = w.0; few = w.1; stands = is }

    go : (o : Option ℕ) → numeral p.text ≡ o → Has (Writes of p.text) (ok_or (option_and_then of o) (fault BadNumber p.at))
    go None e = tt
    go (Some n) e = by n e (of n) refl

-- What each kind of field says of its text.
pub number_says : (p : Piece) → Has (λ (n : ℕ). (p.text ≡ decimal n) × (n < 10 ^ 15)) (any_number p)
number_says p =
    has_as (Writes Some p.text) _ (any_number p) (number_as_says Some p) (λ n w. let same : w.number ≡ n = some_inj w.stands in subst (λ k. (p.text ≡ decimal k) × (k < 10 ^ 15)) same (w.digits, w.few))

at_most_is : (most n k : ℕ) → at_most most n ≡ Some k → (n ≡ k) × (k ≤ most)
at_most_is most n k e = grind (arith, nat_tests, e)

up_to_says : (most : ℕ) (p : Piece) → Has (λ (n : ℕ). (p.text ≡ decimal n) × (n ≤ most)) (up_to most p)
up_to_says most p =
    has_as (Writes (at_most most) p.text) _ (up_to most p) (number_as_says (at_most most) p) (λ n w. let is = at_most_is most w.number n w.stands in (w.digits ∙ ap decimal is.0, is.1))

empty_says : (p : Piece) → Has (λ (u : Unit {0}). p.text ≡ []) (empty p)
empty_says p = has_if _ (empty p) (λ u e. nil_from_length p.text (grind (arith, nat_tests, e)))

machine_kind_is : (n : ℕ) (k : MachineKind) → machine_kind n ≡ Some k → n ≡ kind_number k
machine_kind_is n k e = grind (arith, nat_tests, e)

kind_says : (p : Piece) → Has (λ (k : MachineKind). p.text ≡ decimal (kind_number k)) (kind_of p)
kind_says p =
    has_as (Writes machine_kind p.text) _ (kind_of p) (number_as_says machine_kind p) (λ k w. w.digits ∙ ap decimal (machine_kind_is w.number k w.stands))

abbrev command_number : CommandKind → ℕ
command_number SetKind = 1
command_number ShiftKind = 2
command_number CoupleKind = 3
command_number MarkKind = 4

command_kind_is : (n : ℕ) (k : CommandKind) → command_kind n ≡ Some k → n ≡ command_number k
command_kind_is n k e = grind (arith, nat_tests, e)

command_kind_says : (p : Piece) → Has (λ (k : CommandKind). p.text ≡ decimal (command_number k)) (number_as command_kind p)
command_kind_says p =
    has_as (Writes command_kind p.text) _ (number_as command_kind p) (number_as_says command_kind p) (λ k w. w.digits ∙ ap decimal (command_kind_is w.number k w.stands))

abbrev pub letter_byte : Letter → ℕ
letter_byte O = 79
letter_byte S = 83
letter_byte H = 72
letter_byte G = 71
letter_byte T = 84
letter_byte R = 82

letter_is : (bs : List ℕ) (at : ℕ) (l : Letter) → letter_of (piece bs at) ≡ Ok l → bs ≡ letter_byte l ∷ []
letter_is [] at l e = cc
letter_is (b ∷ []) at l e = grind (arith, nat_tests, e)
letter_is (b ∷ c ∷ bs) at l e = grind (arith, nat_tests, e)

letter_says : (p : Piece) → Has (λ (l : Letter). p.text ≡ letter_byte l ∷ []) (letter_of p)
letter_says p = has_if _ (letter_of p) (letter_is p.text p.at)

-- The command of a send.
module _ (f : Pieces) where
  abbrev Commands : Command → Type 0
  Commands c = CommandText c f.class.text f.first.text f.second.text

  -- The texts as they are, for the texts that write the command.
  as_they_are : {c : Command} {class first second : List ℕ} → f.class.text ≡ class → f.first.text ≡ first → f.second.text ≡ second → CommandText c class first second → Commands c
  as_they_are {c} {class} {first} {second} a b d w =
      subst (λ z. CommandText c z f.first.text f.second.text) (sym a) (subst (λ y. CommandText c class y f.second.text) (sym b) (subst (λ x. CommandText c class first x) (sym d) w))

  -- An axis and a word are written.
  abbrev AxisAndWord : ℕ × ℕ → Type 0
  AxisAndWord d = (f.first.text ≡ decimal d.0) × (d.0 ≤ 255) × (f.second.text ≡ decimal d.1) × (d.1 ≤ 4294967295)

  axis_and_word_says : Has AxisAndWord (axis_and_word f)
  axis_and_word_says =
      has_then (λ (k : ℕ). (f.first.text ≡ decimal k) × (k ≤ 255)) AxisAndWord (up_to 255 f.first) _ (up_to_says 255 f.first)
      (λ axis p. has_then (λ (k : ℕ). (f.second.text ≡ decimal k) × (k ≤ 4294967295)) AxisAndWord (up_to 4294967295 f.second) _ (up_to_says 4294967295 f.second) (λ word q. (p.0, p.1, q.0, q.1)))

  command_says : Has Commands (command_of f)
  command_says =
      has_then (λ (k : CommandKind). f.class.text ≡ decimal (command_number k)) Commands (number_as command_kind f.class) (λ k. command_by k f) (command_kind_says f.class) by
    where
      by : (k : CommandKind) → f.class.text ≡ decimal (command_number k) → Has Commands (command_by k f)
      by SetKind e = has_then AxisAndWord Commands (axis_and_word f) _ axis_and_word_says (λ d w. as_they_are e w.0 w.2 (set w.1 w.3))
      by ShiftKind e = has_then AxisAndWord Commands (axis_and_word f) _ axis_and_word_says (λ d w. as_they_are e w.0 w.2 (shift w.1 w.3))
      by CoupleKind e =
          has_then (λ (k : ℕ). (f.first.text ≡ decimal k) × (k ≤ 255)) Commands (up_to 255 f.first) _ (up_to_says 255 f.first)
          (λ source p. has_then (λ (k : ℕ). (f.second.text ≡ decimal k) × (k ≤ 255)) Commands (up_to 255 f.second) _ (up_to_says 255 f.second) (λ to q. as_they_are e p.0 q.0 (couple p.1 q.1)))
      by MarkKind e =
          has_then (λ (k : ℕ). (f.first.text ≡ decimal k) × (k ≤ 4294967295)) Commands (up_to 4294967295 f.first) _ (up_to_says 4294967295 f.first)
          (λ code p. has_then (λ (u : Unit {0}). f.second.text ≡ []) Commands (empty f.second) _ (empty_says f.second) (λ _ q. as_they_are e p.0 q (mark p.1)))

-- The step of seven fields.
module _ (l : Piece) (f : Pieces) where
  abbrev pub fields : List (List ℕ)
  fields = l.text ∷ f.member.text ∷ f.number.text ∷ f.set.text ∷ f.class.text ∷ f.first.text ∷ f.second.text ∷ []

  abbrev Steps : Step → Type 0
  Steps s = StepText s fields

  abbrev Blank : Piece → Unit {0} → Type 0
  Blank p u = p.text ≡ []

  abbrev Number : ℕ → Piece → ℕ → Type 0
  Number most p n = (p.text ≡ decimal n) × (n ≤ most)

  abbrev Any : Piece → ℕ → Type 0
  Any p n = (p.text ≡ decimal n) × (n < 10 ^ 15)

  blank_then : {A : Type 0} (Q : A → Type 0) (p : Piece) (more : Read A) → (p.text ≡ [] → Has Q more) → Has Q (blank p more)
  blank_then Q p more h = has_then (Blank p) Q (empty p) (λ _. more) (empty_says p) (λ _ e. h e)

  open_says : l.text ≡ 79 ∷ [] → Has Steps (open_step f)
  open_says o =
      has_then (Number 255 f.member) Steps (up_to 255 f.member) _ (up_to_says 255 f.member) (λ n a.
      has_then (Any f.number) Steps (any_number f.number) _ (number_says f.number) (λ last b.
      blank_then Steps f.set _ (λ c.
      has_then (λ (k : MachineKind). f.class.text ≡ decimal (kind_number k)) Steps (kind_of f.class) _ (kind_says f.class) (λ k d.
      blank_then Steps f.first _ (λ e.
      blank_then Steps f.second _ (λ g.
      subst (StepText (record { call = Open n last; kind = Some k })) (λ i. sym o i ∷ sym a.0 i ∷ sym b.0 i ∷ sym c i ∷ sym d i ∷ sym e i ∷ sym g i ∷ []) (opens a.1 b.1)))))))

  send_says : l.text ≡ 83 ∷ [] → Has Steps (send_step f)
  send_says o =
      has_then (Number 255 f.member) Steps (up_to 255 f.member) _ (up_to_says 255 f.member) (λ sender a.
      blank_then Steps f.number _ (λ b.
      has_then (Number 65535 f.set) Steps (up_to 65535 f.set) _ (up_to_says 65535 f.set) (λ to c.
      has_then (Commands f) Steps (command_of f) _ (command_says f) (λ d e.
      subst (StepText (asks (Send sender to d))) (λ i. sym o i ∷ sym a.0 i ∷ sym b i ∷ sym c.0 i ∷ f.class.text ∷ f.first.text ∷ f.second.text ∷ []) (sends a.1 c.1 e)))))

  -- The member and the number are written, and nothing behind them.
  abbrev Destined : ℕ × ℕ → Type 0
  Destined d = (f.member.text ≡ decimal d.0) × (d.0 ≤ 255) × (f.number.text ≡ decimal d.1) × (d.1 < 10 ^ 15) × (f.set.text ≡ []) × (f.class.text ≡ []) × (f.first.text ≡ []) × (f.second.text ≡ [])

  destination_says : Has Destined (destination_of f)
  destination_says =
      has_then (Number 255 f.member) Destined (up_to 255 f.member) _ (up_to_says 255 f.member) (λ m a.
      has_then (Any f.number) Destined (any_number f.number) _ (number_says f.number) (λ k b.
      blank_then Destined f.set _ (λ c. blank_then Destined f.class _ (λ d. blank_then Destined f.first _ (λ e. blank_then Destined f.second _ (λ g. (a.0, a.1, b.0, b.1, c, d, e, g)))))))

  named_says : (make : ℕ → ℕ → Call) (b : ℕ) → ((m k : ℕ) → m ≤ 255 → k < 10 ^ 15 → StepText (asks (make m k)) ((b ∷ []) ∷ decimal m ∷ decimal k ∷ [] ∷ [] ∷ [] ∷ [] ∷ [])) → l.text ≡ b ∷ [] → Has Steps (named_step make f)
  named_says make b text o =
      has_then Destined Steps (destination_of f) (λ d. Ok (asks (make d.0 d.1))) destination_says
      (λ d h. subst (StepText (asks (make d.0 d.1))) (λ i. sym o i ∷ sym h.0 i ∷ sym h.2 i ∷ sym h.4 i ∷ sym h.5 i ∷ sym h.6 i ∷ sym h.7 i ∷ []) (text d.0 d.1 h.1 h.3))

  run_says : l.text ≡ 82 ∷ [] → Has Steps (run_step f)
  run_says o =
      has_then (Number 255 f.member) Steps (up_to 255 f.member) _ (up_to_says 255 f.member) (λ m a.
      blank_then Steps f.number _ (λ b. blank_then Steps f.set _ (λ c. blank_then Steps f.class _ (λ d. blank_then Steps f.first _ (λ e. blank_then Steps f.second _ (λ g.
      subst (StepText (asks (Run m))) (λ i. sym o i ∷ sym a.0 i ∷ sym b i ∷ sym c i ∷ sym d i ∷ sym e i ∷ sym g i ∷ []) (runs a.1)))))))

  step_says : (x : Letter) → l.text ≡ letter_byte x ∷ [] → Has Steps (step_by x f)
  step_says O o = open_says o
  step_says S o = send_says o
  step_says H o = named_says Hear 72 (λ m k a b. hears a b) o
  step_says G o = named_says Gather 71 (λ m k a b. gathers a b) o
  step_says T o = named_says Settle 84 (λ m k a b. settles a b) o
  step_says R o = run_says o

  pub fields_say : Has Steps (and_then (letter_of l) (λ x. step_by x f))
  fields_say = has_then (λ (x : Letter). l.text ≡ letter_byte x ∷ []) Steps (letter_of l) (λ x. step_by x f) (letter_says l) (λ x o. step_says x o)
