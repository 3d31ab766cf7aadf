-- The recorder keeps the laws of a kind: all of its commands conflict, and a record of three new numbers and the 21 before
-- the last three is as long as it was.
use Rattle.std.specs.Prelude.{◌≡◌, ℕ, ◌+◌, true, List, ◌++◌, map, length, take, drop, slice_index, refl}
use Rattle.std.proofs.Common.{arith}
use Rattle.std.proofs.lemmas.List.{length-append, length-map, length-take-le, length-drop}
use Rattle.std.proofs.lemmas.Bool.{true≢false}
use Rattle.machine.specs.declared.command.Command.{Command}
use Rattle.machine.specs.Kinds.{Laws}
use Rattle.machine.specs.Numbers.{numbers}
use Rattle.machine.specs.Recorders.{recorder, record_next}
use Rattle.machine.specs.Words.{wrap, words}
use Rattle.machine.specs.Entries.{three_numbers}
use Rattle.machine.specs.WordsLemmas.{wrap_below, cells_length, cells_words, cells_from, words_cons, words_take, words-drop, words_append, words_wrapped}

next_length : (s : List ℕ) (c : Command) → length s ≡ 25 → length (record_next s c) ≡ 25
next_length s c l =
    let d : length (drop 1 s) ≡ 24 = rw length-drop (omega arith) in
    let t : length (take 21 (drop 1 s)) ≡ 21 = length-take-le 21 (drop 1 s) (omega arith) in
    omega (arith, length-append (map wrap (numbers c)) (take 21 (drop 1 s)), length-map (numbers c) wrap, three_numbers c)

next_words : (s : List ℕ) (c : Command) → words s ≡ true → words (record_next s c) ≡ true
next_words s c w =
    words_cons (wrap (slice_index s 0 + 1)) (map wrap (numbers c) ++ take 21 (drop 1 s)) (wrap_below (slice_index s 0 + 1))
    (words_append (map wrap (numbers c)) (take 21 (drop 1 s)) (words_wrapped (numbers c)) (words_take 21 (drop 1 s) (words-drop 1 s w)))

pub recorder_laws : Laws recorder
recorder_laws =
    record {
      symmetric = λ a b. refl;
      commuting = λ s a b _ h. absurd (true≢false h);
      starts = refl;
      keeps = λ s c h. cells_from 25 (record_next s c) (next_length s c (cells_length 25 s h)) (next_words s c (cells_words 25 s h));
      counted = λ s h. cells_length 25 s h;
    }
