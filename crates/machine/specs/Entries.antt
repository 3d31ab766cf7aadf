-- The record's cells by places of three: which cells the first places have, and which cell stands where.
use Rattle.std.specs.Prelude.{◌≡◌, ℕ, zero, suc, ◌+◌, ◌*◌, ◌/◌, ◌%◌, ◌<◌, ◌≤◌, List, [], ◌∷◌, ◌++◌, map, length, get_or, take, drop, Some, None, Option, slice_index, slice_index_or, refl}
use Rattle.std.proofs.Common.{sym, ap, ◌∙◌, arith, drop-cons}
use lib.Seq.{take-append-add}
use Rattle.std.specs.List.{slice_get}
use Rattle.std.specs.Option.{MatchOption}
use Rattle.std.proofs.lemmas.List.{length-append}
use Rattle.std.proofs.lemmas.Option.{slice_get-get_or, slice_get_past}
use Rattle.machine.specs.declared.command.Command.{Command}
use Rattle.machine.specs.declared.command.Command.TheVariants.{Set, Shift, Couple, Mark}
use Rattle.machine.specs.Numbers.{numbers}
use Rattle.machine.specs.Recorders.{entry, entries, places_from}
use Rattle.machine.specs.Words.{wrap}

pub three_numbers : (c : Command) → length (numbers c) ≡ 3
three_numbers (Set axis value) = refl
three_numbers (Shift axis amount) = refl
three_numbers (Couple from to) = refl
three_numbers (Mark code) = refl

three : (o : Option Command) → length (entry o) ≡ 3
three None = refl
three (Some c) = three_numbers c

entries_length : (l : List (Option Command)) → length (entries l) ≡ 3 * length l
entries_length [] = refl
entries_length (o ∷ os) = rw length-append (omega (arith, three o, entries_length os))

entries_take : (k : ℕ) (l : List (Option Command)) → k ≤ length l → take (3 * k) (entries l) ≡ entries (take k l)
entries_take zero l h = refl
entries_take (suc k) [] h = absurd (omega arith)
entries_take (suc k) (o ∷ os) h =
    let e : 3 * suc k ≡ length (entry o) + 3 * k = omega (arith, three o) in
    rw e (take-append-add (entry o) (entries os) (3 * k) ∙ ap (λ zs. entry o ++ zs) (entries_take k os (omega arith)))

slice_get-append_left : (xs ys : List ℕ) (i : ℕ) → i < length xs → slice_get (xs ++ ys) i ≡ slice_get xs i
slice_get-append_left [] ys i h = absurd (omega arith)
slice_get-append_left (x ∷ xs) ys zero h = refl
slice_get-append_left (x ∷ xs) ys (suc i) h = slice_get-append_left xs ys i (omega arith)

slice_get-append_right : (xs ys : List ℕ) (i : ℕ) → slice_get (xs ++ ys) (length xs + i) ≡ slice_get ys i
slice_get-append_right [] ys i = let e : 0 + i ≡ i = omega arith in rw e
slice_get-append_right (x ∷ xs) ys i = let e : suc (length xs) + i ≡ suc (length xs + i) = omega arith in rw e (slice_get-append_right xs ys i)

entries_slice_get : (l : List (Option Command)) (q r : ℕ) → r < 3 → q < length l → slice_get (entries l) (3 * q + r) ≡ slice_get (entry (slice_index_or l q None)) r
entries_slice_get [] q r h k = absurd (omega arith)
entries_slice_get (o ∷ os) zero r h k =
    let e : 0 + r ≡ r = omega arith in
    rw e (slice_get-append_left (entry o) (entries os) r (omega (arith, three o)))
entries_slice_get (o ∷ os) (suc q) r h k =
    let e : 3 * suc q + r ≡ length (entry o) + (3 * q + r) = omega (arith, three o) in
    rw e (slice_get-append_right (entry o) (entries os) (3 * q + r) ∙ entries_slice_get os q r h (omega arith))

cell_at : (l : List (Option Command)) (i : ℕ) → i / 3 < length l → slice_get (entries l) i ≡ Some (slice_index (entry (slice_index_or l (i / 3) None)) (i % 3))
cell_at l i q =
    let e : i ≡ 3 * (i / 3) + i % 3 = omega arith in
    let o = get_or l (i / 3) None in
    let r : i % 3 < length (entry o) = omega (arith, three o) in
    ap (slice_get (entries l)) e ∙ entries_slice_get l (i / 3) (i % 3) (omega arith) q ∙ slice_get-get_or (entry o) (i % 3) 0 r

pub no_cell : (l : List (Option Command)) (i : ℕ) → length l ≤ i / 3 → slice_get (entries l) i ≡ None
no_cell l i k = slice_get_past (entries l) i (omega (arith, entries_length l))

blank : (r : ℕ) → slice_index (entry None) r ≡ 0
blank zero = refl
blank (suc zero) = refl
blank (suc (suc zero)) = refl
blank (suc (suc (suc r))) = refl

-- A cell of a place: a number of the command that it holds, and 0 where it holds none.
pub place_cell : (l : List (Option Command)) (i : ℕ) (p : Option Command) (r : ℕ) → i / 3 < length l → slice_index_or l (i / 3) None ≡ p → MatchOption p (r ≡ 0) (λ c. r ≡ slice_index (numbers c) (i % 3)) → Some r ≡ slice_get (entries l) i
place_cell l i None r k e h = sym (cell_at l i k ∙ rw (e, h) (ap (λ x. Some x) (blank (i % 3))))
place_cell l i (Some c) r k e h = sym (cell_at l i k ∙ rw (e, h) refl)

-- The first places, one by one.
places_are : (l : List (Option Command)) (i k : ℕ) → i + k ≤ length l → places_from l i k ≡ take k (drop i l)
places_are l i zero h = refl
places_are l i (suc k) h =
    let b : i < length l = omega arith in
    rw (drop-cons l i None b) (ap (λ os. slice_index_or l i None ∷ os) (places_are l (suc i) k (omega arith)))

-- A command before the first seven of eight places.
pub moved_on : (l : List (Option Command)) (c : Command) → length l ≡ 8 → map wrap (numbers c) ≡ numbers c → entries (Some c ∷ places_from l 0 7) ≡ map wrap (numbers c) ++ take 21 (entries l)
moved_on l c h f =
    rw f (ap (λ zs. numbers c ++ zs) (ap entries (places_are l 0 7 (omega arith)) ∙ sym (entries_take 7 l (omega arith))))
