-- A send on the tables does what the model does: the new command lies behind the others.
use Rattle.std.proofs.lemmas.Option.{none-some, same_Some}
use Rattle.std.proofs.Common.{◌≡◌, ◌⊎◌, inl, inr, List, ℕ, zero, suc, ◌+◌, ◌<◌, ◌≤◌, ltb, [], ◌∷◌, ◌++◌, length, replicate, Some, None, Ok, Err, Option, sym, refl, ap, ◌∙◌, subst, ⊎_elim, add-one, arith}
use Rattle.std.proofs.lemmas.List.{length-append, get_or-replicate, length-replicate, get_or_past}
use Rattle.std.proofs.lemmas.Bool.{lt-ltb, le-ltb, cases_lt}
use Rattle.std.specs.List.{slice_get}
use Rattle.open_commands.specs.declared.parts.Address.{Address}
use Rattle.line.specs.declared.parts.Tables.{Tables}
use Rattle.open_commands.specs.declared.parts.OpenCommand.{OpenCommand as Place}
use Rattle.open_commands.specs.Lists.{lookup_by, mapped}
use Rattle.open_commands.specs.Views.{number_of, unsent, view_open, new_place}
use Rattle.line.specs.Listings.{Listing, pushed}
use Rattle.line.specs.Tables.{view_table, view_tables, Fits, Good}
use Rattle.line.proofs.Done.{Done}
use Rattle.open_commands.specs.Places.{AddressMade}
use Rattle.open_commands.proofs.Keyed.{lookup_place, lookup_push, apart_push, count_keys}
use Rattle.line.proofs.Running.{numbered}
use Rattle.line.proofs.SeatViews.{count_same, mapped-present}
use Rattle.line.proofs.TableViews.{open_path, book_path, mapped-put}
use Rattle.machine.specs.AxisBanks.{axis_bank}
use Rattle.machine.specs.declared.command.Command.{Command}
use Rattle.ordering.proofs.Accepted.{send_ok}
use Rattle.ordering.proofs.SoundSteps.{sound_send}
use Rattle.ordering.specs.declared.calls.Refusal.TheVariants.{NoMember, BadSet, NumbersUsedUp, TableFull}
use Rattle.ordering.specs.Lines.{Book, open_count}
use Rattle.ordering.specs.Searches.{put, present}
use Rattle.ordering.specs.Steps.{Outcome, demand, lawful_set, new_command, issue, send}

-- What stands in a list with an element behind it: that element, or what stood there.
slice_get-push : {X : Type 0} (xs : List X) (j : ℕ) (x y : X) → slice_get (xs ++ x ∷ []) j ≡ Some y → (x ≡ y) ⊎ (slice_get xs j ≡ Some y)
slice_get-push [] zero x y h = inl (same_Some _ _ h)
slice_get-push [] (suc j) x y h = absurd (none-some _ h)
slice_get-push (z ∷ zs) zero x y h = inr h
slice_get-push (z ∷ zs) (suc j) x y h = slice_get-push zs j x y h

module _ (b : Tables) (g : Good b) where
  open_count_lem : open_count (view_tables b) ≡ (length b.commands.0)
  open_count_lem =
      count_same (suc b.issued) (λ k. present (view_table b.commands.0 k)) (λ k. present (lookup_by number_of b.commands.0 k)) (λ k. mapped-present view_open (lookup_by number_of b.commands.0 k)) ∙ count_keys number_of (suc b.issued) b.commands.0 g.fits.distinct (λ i o at. known i o at)
    where
      known : (i : ℕ) (o : Place) → slice_get b.commands.0 i ≡ Some o → number_of o < suc b.issued
      known i o at = let w = numbered axis_bank b g 0 i o at in omega arith

  module _ (sender set' : ℕ) (c : Command) (a : Address) (made : AddressMade b.members sender set' (Ok a)) (room : b.issued < b.last) where
    -- the checks on the address and the numbers are passed
    passed : send (view_tables b) sender set' c ≡ demand (ltb (open_count (view_tables b)) 32) TableFull (Ok (suc b.issued, issue (view_tables b) (new_command sender set' c)))
    passed =
        ap (λ t. demand t NoMember (demand (lawful_set b.members set') BadSet (demand (ltb b.issued b.last) NumbersUsedUp rest))) made.2
        ∙ (ap (λ t. demand t BadSet (demand (ltb b.issued b.last) NumbersUsedUp rest)) made.3
        ∙ ap (λ t. demand t NumbersUsedUp rest) (lt-ltb b.issued b.last room))
      where
        rest : Outcome (ℕ × Book)
        rest = demand (ltb (open_count (view_tables b)) 32) TableFull (Ok (suc b.issued, issue (view_tables b) (new_command sender set' c)))

    pub send_full : 32 ≤ (length b.commands.0) → send (view_tables b) sender set' c ≡ Err TableFull
    send_full full = passed ∙ ap (λ t. demand t TableFull (Ok (suc b.issued, issue (view_tables b) (new_command sender set' c)))) (ap (λ n. ltb n 32) open_count_lem ∙ le-ltb (length b.commands.0) 32 full)

    -- the new command and the tables with it
    abbrev pub fresh : Place
    fresh = new_place (b.issued + 1) a c

    abbrev pub issued : Place → Tables
    issued p = record { members = b.members; last = b.last; issued = b.issued + 1; commands = pushed b.commands p; roll = b.roll }

    seen : view_open fresh ≡ new_command sender set' c
    seen = open_path (view_open fresh) (new_command sender set' c) made.0 made.1 refl refl (λ q. ⊎_elim (λ l. ap (λ d. d.phase) (get_or-replicate 16 q unsent unsent l)) (λ l. ap (λ d. d.phase) (get_or_past (replicate 16 unsent) q unsent (subst (λ n. n ≤ q) (sym (length-replicate 16 unsent)) l))) (cases_lt q 16))

    unissued : lookup_by number_of b.commands.0 (b.issued + 1) ≡ None
    unissued = go (lookup_by number_of b.commands.0 (b.issued + 1)) refl
      where
        go : (x : Option Place) → lookup_by number_of b.commands.0 (b.issued + 1) ≡ x → x ≡ None
        go None e = refl
        go (Some o) e =
            let w = lookup_place number_of b.commands.0 (b.issued + 1) o e in
            let l = numbered axis_bank b g 0 w.0 o w.1 in
            let v : o.number ≡ b.issued + 1 = w.2 in
            absurd (omega arith)

    module _ (few : (length b.commands.0) < 32) where
      pub send_done : Done (send (view_tables b) sender set' c) ((b.issued + 1)) (issued fresh)
      send_done =
          (same, record { fits = fits; sound = sound_send (view_tables b) sender set' c (b.issued + 1, view_tables (issued fresh)) (send_ok (view_tables b) sender set' c (b.issued + 1, view_tables (issued fresh)) same) g.sound })
        where
          book : issue (view_tables b) (new_command sender set' c) ≡ view_tables (issued fresh)
          book =
              sym (book_path (view_tables (issued fresh)) (issue (view_tables b) (new_command sender set' c)) refl refl (add-one b.issued) (λ k. ap (mapped view_open) (lookup_push number_of b.commands.0 fresh unissued k) ∙ (mapped-put view_open (b.issued + 1) k (Some fresh) (lookup_by number_of b.commands.0) ∙ (ap (λ o. put (b.issued + 1) (Some o) (view_table b.commands.0) k) seen ∙ ap (λ n. put n (Some (new_command sender set' c)) (view_table b.commands.0) k) (add-one b.issued)))) (λ q. refl))

          same : send (view_tables b) sender set' c ≡ Ok (b.issued + 1, view_tables (issued fresh))
          same =
              passed ∙ (ap (λ t. demand t TableFull (Ok (suc b.issued, issue (view_tables b) (new_command sender set' c)))) (ap (λ n. ltb n 32) open_count_lem ∙ lt-ltb (length b.commands.0) 32 few) ∙ pair (suc b.issued) (b.issued + 1) (issue (view_tables b) (new_command sender set' c)) (view_tables (issued fresh)) (sym (add-one b.issued)) book)
            where
              pair : (u v : ℕ) (x y : Book) → u ≡ v → x ≡ y → ◌≡◌ {A = Outcome (ℕ × Book)} (Ok (u, x)) (Ok (v, y))
              pair u v x y e f = λ i. Ok (e i, f i)

          fits : Fits (issued fresh)
          fits =
              record {
                few = let w = length-append b.commands.0 (fresh ∷ []) in omega arith;
                seats = g.fits.seats;
                numbers = omega arith;
                lasts = g.fits.lasts;
                distinct = apart_push number_of b.commands.0 fresh g.fits.distinct unissued;
                wide = λ j q e. ⊎_elim (λ w. subst (λ x. length x.destinations ≡ 16) w (length-replicate 16 unsent)) (λ w. g.fits.wide j q w) (slice_get-push b.commands.0 j fresh q e);
                seated = g.fits.seated;
              }

      -- as the code has it: the command as it was made, and the list that it was put behind
      pub send_answer : (cs : Listing Place) (p : Place) → p ≡ fresh → cs ≡ pushed b.commands p → Done (send (view_tables b) sender set' c) (b.issued + 1) (record { members = b.members; last = b.last; issued = b.issued + 1; commands = cs; roll = b.roll })
      send_answer cs p e is =
          subst (λ x. Done (send (view_tables b) sender set' c) (b.issued + 1) (record { members = b.members; last = b.last; issued = b.issued + 1; commands = x; roll = b.roll })) (sym (is ∙ ap (pushed b.commands) e)) send_done
