-- A whole list of calls, one call at a time.
use Rattle.std.proofs.Common.{◌≡◌, ℕ, suc, ◌+◌, ◌<◌, ◌≤◌, List, [], ◌∷◌, ◌++◌, map, reverse, length, get_or, take, drop, set, sym, refl, ap, ◌∙◌, subst, append_assoc, add-one, arith, length-append, drop-cons}
use Rattle.std.proofs.lemmas.List.{set_at, map-append, reverse-append, take_all, take-append-le, drop_all}
use Rattle.machine.specs.Kinds.{Kind, Laws}
use Rattle.ordering.proofs.Always.{ordered_always}
use Rattle.ordering.specs.Answering.{answer_of}
use Rattle.ordering.specs.declared.calls.Answer.{Answer}
use Rattle.ordering.specs.declared.calls.Call.{Call}
use Rattle.ordering.specs.Lines.{Line}
use Rattle.ordering.specs.Steps.{Outcome}
use Rattle.ordering.specs.Worlds.{after, step, moved}
use Rattle.stations.specs.Held.{AskedAll}
use Rattle.stations.proofs.Together.{moved_alike}
use Rattle.stations.specs.Played.{played, answers_to, Played}

-- Some calls are made: where they lead, and what is written.
pub record SoFar (K : Kind) (cs : List Call) (before now : List (Outcome Answer)) (l : Line) (held : ℕ → List ℕ) : Type 0 where
  pub line : (played K cs).line ≡ l
  pub cells : (m : ℕ) → m < 16 → (played K cs).cells m ≡ held m
  pub count : length (answers_to K cs) ≡ length cs
  pub answers : now ≡ take (length before) (answers_to K cs) ++ drop (length cs) before

-- One answer more, where there is room and where there is none.
written : (before done : List (Outcome Answer)) (a : Outcome Answer) → length done < length before → set (take (length before) done ++ drop (length done) before) (length done) a ≡ take (length before) (done ++ a ∷ []) ++ drop (length done + 1) before
written before done a l =
    ap (λ xs. set (xs ++ drop (length done) before) (length done) a) (take_all (length before) done (omega arith))
    ∙ (ap (λ xs. set (done ++ xs) (length done) a) (drop-cons before (length done) a l)
    ∙ (set_at done (get_or before (length done) a) (drop (suc (length done)) before) a (length done) refl
    ∙ (sym (append_assoc done (a ∷ []) (drop (suc (length done)) before))
    ∙ (ap (λ n. (done ++ a ∷ []) ++ drop n before) (sym (add-one (length done)))
    ∙ ap (λ xs. xs ++ drop (length done + 1) before) (sym (take_all (length before) (done ++ a ∷ []) (let w = length-append done (a ∷ []) in omega arith)))))))

full : (before done : List (Outcome Answer)) (a : Outcome Answer) → length before ≤ length done → take (length before) done ++ drop (length done) before ≡ take (length before) (done ++ a ∷ []) ++ drop (length done + 1) before
full before done a l =
    ap (λ xs. take (length before) done ++ xs) (drop_all (length done) before l ∙ sym (drop_all (length done + 1) before (omega arith))) ∙ ap (λ xs. xs ++ drop (length done + 1) before) (sym (take-append-le (length before) done (a ∷ []) l))

module _ {K : Kind} {cs : List Call} {c : Call} {before now : List (Outcome Answer)} {l : Line} {held : ℕ → List ℕ} {r : Outcome Answer} {l' : Line} {held' : ℕ → List ℕ} (s : SoFar K cs before now l held) (a : AskedAll K l c held r l' held') where
  turned_round : reverse (cs ++ c ∷ []) ≡ c ∷ reverse cs
  turned_round = reverse-append cs (c ∷ [])

  new_line : (played K (cs ++ c ∷ [])).line ≡ l'
  new_line = ap (λ xs. (after K xs).line) turned_round ∙ (ap (λ z. (step K z c).line) s.line ∙ a.line)

  new_cells : (m : ℕ) → m < 16 → (played K (cs ++ c ∷ [])).cells m ≡ held' m
  new_cells m near =
      ap (λ xs. (after K xs).cells m) turned_round ∙ (ap (λ z. moved K (step K z c).move (played K cs).cells m) s.line ∙ (moved_alike K (played K cs).cells held s.cells (step K l c).move m near ∙ a.cells m near))

  new_answers : answers_to K (cs ++ c ∷ []) ≡ answers_to K cs ++ r ∷ []
  new_answers =
      ap (λ xs. map answer_of (reverse (after K xs).history)) turned_round ∙ (ap (map answer_of) (reverse-append ((step K (played K cs).line c).event ∷ []) (played K cs).history) ∙ (map-append answer_of (reverse (played K cs).history) ((step K (played K cs).line c).event ∷ []) ∙ ap (λ x. answers_to K cs ++ x ∷ []) (ap (λ z. answer_of (step K z c).event) s.line ∙ a.answer)))

  new_count : length (answers_to K (cs ++ c ∷ [])) ≡ length (cs ++ c ∷ [])
  new_count =
      let w = length-append (answers_to K cs) (r ∷ []) in
      let v = length-append cs (c ∷ []) in
      let u : length (answers_to K cs) ≡ length cs = s.count in
      ap length new_answers ∙ joined (length (answers_to K cs)) (length cs) (length (answers_to K cs ++ r ∷ [])) (length (cs ++ c ∷ [])) w v u
    where
      joined : (x y z t : ℕ) → z ≡ x + 1 → t ≡ y + 1 → x ≡ y → z ≡ t
      joined x y z t p q e = omega arith

  more_length : length (cs ++ c ∷ []) ≡ length (answers_to K cs) + 1
  more_length = length-append cs (c ∷ []) ∙ ap (λ n. n + 1) (sym s.count)

  now_done : now ≡ take (length before) (answers_to K cs) ++ drop (length (answers_to K cs)) before
  now_done = s.answers ∙ ap (λ n. take (length before) (answers_to K cs) ++ drop n before) (sym s.count)

  new_written : (now' : List (Outcome Answer)) → now' ≡ take (length before) (answers_to K cs ++ r ∷ []) ++ drop (length (answers_to K cs) + 1) before → SoFar K (cs ++ c ∷ []) before now' l' held'
  new_written now' e =
      record {
        line = new_line;
        cells = new_cells;
        count = new_count;
        answers = e ∙ (ap (λ xs. take (length before) xs ++ drop (length (answers_to K cs) + 1) before) (sym new_answers) ∙ ap (λ n. take (length before) (answers_to K (cs ++ c ∷ [])) ++ drop n before) (sym more_length));
      }

  pub one_more : (i : ℕ) → i ≡ length cs → i < length before → SoFar K (cs ++ c ∷ []) before (set now i r) l' held'
  one_more i is room =
      new_written (set now i r) (ap (λ n. set now n r) at ∙ (ap (λ xs. set xs (length (answers_to K cs)) r) now_done ∙ written before (answers_to K cs) r (subst (λ n. n < length before) at room)))
    where
      at : i ≡ length (answers_to K cs)
      at = is ∙ sym s.count

  pub no_room : (i : ℕ) → i ≡ length cs → length before ≤ i → SoFar K (cs ++ c ∷ []) before now l' held'
  no_room i is full-up = new_written now (now_done ∙ full before (answers_to K cs) r (subst (λ n. length before ≤ n) (is ∙ sym s.count) full-up))

-- All calls are made.
pub all_made : {K : Kind} {cs : List Call} {before now : List (Outcome Answer)} {l : Line} {held : ℕ → List ℕ} → Laws K → SoFar K cs before now l held → Played K cs before now l held
all_made {K} {cs} L s =
    record { ordered = ordered_always K L (reverse cs); line = s.line; cells = s.cells; answers = s.answers }
