-- A newly opened line is what the model opens, and carries all that a line carries.
use Rattle.std.proofs.lemmas.Option.{none-some}
use Rattle.std.proofs.Common.{◌≡◌, ℕ, ◌^◌, ◌≤◌, true, ◌&&◌, leb, length, Some, Ok, sym, refl, ap, ◌∙◌, subst, arith}
use Rattle.std.proofs.lemmas.Bool.{le-leb, and_from}
use Rattle.std.specs.List.{slice_get}
use Rattle.line.specs.declared.parts.Tables.{Tables}
use Rattle.line.specs.Tables.{view_table, view_member, view_tables, Fits, Good, SeatFits}
use Rattle.open_commands.specs.Views.{number_of}
use Rattle.open_commands.specs.Lists.{apart}
use Rattle.line.specs.Calls.{EmptyTables}
use Rattle.line.proofs.TableViews.{book_path}
use Rattle.ordering.proofs.SoundSteps.{sound_new}
use Rattle.ordering.specs.declared.calls.Refusal.TheVariants.{BadMemberCount, BadLastNumber}
use Rattle.ordering.specs.Kept.{Sound}
use Rattle.ordering.specs.Steps.{demand, open_closed, new_book}

module _ (n last : ℕ) (b : Tables) (e : EmptyTables n last b) where
  view_new : view_tables b ≡ new_book n last
  view_new =
      book_path (view_tables b) (new_book n last) e.members e.lasts e.issued (λ k. ap (λ ps. view_table ps k) e.commands) (λ m. ap view_member (e.roll m))

  module _ (some : 1 ≤ n) (few : n ≤ 16) (least : 1 ≤ last) (most : last ≤ 2 ^ 48) where
    fits_new : Fits b
    fits_new =
        record {
          few = let w = ap length e.commands in omega arith;
          seats = e.seats;
          numbers = let w : b.issued ≡ 0 = e.issued in omega arith;
          lasts = subst (λ x. x ≤ 2 ^ 48) (sym e.lasts) most;
          distinct = subst (λ ps. apart number_of ps ≡ true) (sym e.commands) refl;
          wide = λ i p h. absurd (none-some _ (subst (λ ps. slice_get ps i ≡ Some p) e.commands h));
          seated = λ m l. subst SeatFits (sym (e.roll m)) (record { few = omega arith; distinct = refl });
        }

    pub opens : (open_closed n last ≡ Ok (view_tables b)) × Good b
    opens = (
      ap (λ t. demand t BadMemberCount (demand (leb 1 last && leb last (2 ^ 48)) BadLastNumber (Ok (new_book n last)))) (and_from (leb 1 n) (leb n 16) (le-leb 1 n some) (le-leb n 16 few))
          ∙ (ap (λ t. demand t BadLastNumber (Ok (new_book n last))) (and_from (leb 1 last) (leb last (2 ^ 48)) (le-leb 1 last least) (le-leb last (2 ^ 48) most)) ∙ ap Ok (sym view_new)),
      record { fits = fits_new; sound = subst Sound (sym view_new) (sound_new n last some few) },
    )
