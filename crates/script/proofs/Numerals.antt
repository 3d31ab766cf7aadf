-- A numeral is what `decimal` writes.
use Rattle.std.proofs.lemmas.Option.{none-some}
use Rattle.std.proofs.Common.{◌≡◌, ℕ, ◌^◌, ◌<◌, ◌≤◌, Bool, true, false, cond, ◌&&◌, List, length, get_or, Some, None, Option, decimal, sym, refl, ap, ◌∙◌, subst, ⊎_elim, arith, rules}
use Rattle.std.specs.Str.{all_ascii_digits}
use Rattle.std.proofs.lemmas.Fmt.{digits_decimal, digits_value-decimal, length-decimal-le, decimal_nonempty, first_decimal, decimal_digit, decimal-digits_value}
use Rattle.std.proofs.lemmas.Str.Parse.{IsNumeralModel, numerals_by_fold, tells_all_ascii_digits, digits_value_short}
use Rattle.std.proofs.lemmas.Bool.Decides.{nat_tests}
use Rattle.std.proofs.lemmas.Bool.{cases_lt}
use Rattle.ordering.proofs.Basics.{some_inj}
use Rattle.script.specs.Numbers.{read_digits, shaped, numeral, Reads}

own : IsNumeralModel (λ ds. all_ascii_digits ds ≡ true) (read_digits 0)
own = numerals_by_fold _ tells_all_ascii_digits read_digits (search rules)

pub record Shape (bs : List ℕ) : Type 0 where
  pub some : 0 < length bs
  pub few : length bs ≤ 15
  pub leads : get_or bs 0 0 ≡ 48 → length bs ≡ 1

shape : (bs : List ℕ) → shaped bs ≡ true → Shape bs
shape bs e =
    record {
      some = grind (arith, nat_tests, e);
      few = grind (arith, nat_tests, e);
      leads = λ z. grind (arith, nat_tests, e, z);
    }

pub shapes : (bs : List ℕ) → Shape bs → shaped bs ≡ true
shapes bs s = grind (arith, nat_tests, s.some, s.few, s.leads)

-- Bytes of this shape are a number if they are digits.
well_shaped : (bs : List ℕ) → shaped bs ≡ true → cond (all_ascii_digits bs) (Some (read_digits 0 bs)) None ≡ numeral bs
well_shaped bs e = sym (ap (λ t. cond (t && all_ascii_digits bs) (Some (read_digits 0 bs)) None) e)

-- What `decimal` writes of a number with at most fifteen digits has the shape, and reads as that number.
written : (n : ℕ) → n < 10 ^ 15 → Shape (decimal n)
written n small = record { some = decimal_nonempty n (omega arith); few = length-decimal-le 15 n (omega arith) small (omega arith); leads = ⊎_elim above zero_only (cases_lt 0 n) }
  where
    above : 0 < n → get_or (decimal n) 0 0 ≡ 48 → length (decimal n) ≡ 1
    above lt z = let f = first_decimal n lt (omega arith) in absurd (omega arith)

    zero_only : n ≤ 0 → get_or (decimal n) 0 0 ≡ 48 → length (decimal n) ≡ 1
    zero_only le z = ap length (decimal_digit n (omega arith))

found : (n : ℕ) → n < 10 ^ 15 → numeral (decimal n) ≡ Some n
found n small =
    sym (well_shaped (decimal n) (shapes (decimal n) (written n small))) ∙ (ap (λ d. cond d (Some (read_digits 0 (decimal n))) None) (digits_decimal own n (omega arith)) ∙ ap Some (digits_value-decimal own n (omega arith)))

only : (bs : List ℕ) (n : ℕ) → numeral bs ≡ Some n → (bs ≡ decimal n) × (n < 10 ^ 15)
only bs n e = go (shaped bs) (all_ascii_digits bs) refl refl e
  where
    go : (s d : Bool) → shaped bs ≡ s → all_ascii_digits bs ≡ d → cond (s && d) (Some (read_digits 0 bs)) None ≡ Some n → (bs ≡ decimal n) × (n < 10 ^ 15)
    go true true q p h =
        let k = shape bs q in
        let v : read_digits 0 bs ≡ n = some_inj h in
        let small : read_digits 0 bs < 10 ^ 15 = digits_value_short own bs 15 p k.few in
        (sym (decimal-digits_value own bs p k.some k.leads (omega arith)) ∙ ap decimal v, subst (λ m. m < 10 ^ 15) v small)
    go true false q p h = absurd (none-some _ h)
    go false d q p h = absurd (none-some _ h)

pub reads_numeral : (bs : List ℕ) → Reads bs (numeral bs)
reads_numeral bs = record { found = λ n small e. ap numeral e ∙ found n small; only = only bs }

pub reads_as : (bs : List ℕ) (r : Option ℕ) → r ≡ numeral bs → Reads bs r
reads_as bs r e = subst (Reads bs) (sym e) (reads_numeral bs)
