-- A place of the table against the model's look-up.
use Rattle.std.proofs.Common.{◌≡◌, ℕ, ◌<◌, Bool, cond, ◌&&◌, ltb, List, length, get_or, Some, Ok, Err, Option, subst, sym, refl, ap, ◌∙◌, arith}
use Rattle.std.proofs.lemmas.Option.{slice_get_read}
use Rattle.std.proofs.lemmas.Bool.{lt-ltb}
use Rattle.std.specs.List.{slice_get}
use Rattle.line.specs.declared.parts.Tables.{Tables}
use Rattle.open_commands.specs.declared.parts.OpenCommand.{OpenCommand as Place}
use Rattle.open_commands.specs.Lists.{lookup_by, mapped}
use Rattle.open_commands.specs.Places.{FoundAt}
use Rattle.open_commands.specs.Views.{number_of, view_open}
use Rattle.line.specs.Tables.{view_tables}
use Rattle.ordering.specs.declared.calls.Refusal.TheVariants.{NoMember, NoDestination}
use Rattle.ordering.specs.Searches.{names}
use Rattle.ordering.specs.Steps.{demand, destined, reach}

-- The place that the search answers, and what was read there.
pub placed : (ps qs : List Place) (k i : ℕ) (r : Option ℕ) (p : Place) → ps ≡ qs → r ≡ Some i → FoundAt ps k r → p ≡ get_or ps i p → (i < length qs) × (lookup_by number_of qs k ≡ slice_get qs i) × (slice_get qs i ≡ Some p)
placed ps qs k i r p same is found read =
    let f = subst (FoundAt ps k) is found in
    subst (λ l. (i < length l) × (lookup_by number_of l k ≡ slice_get l i) × (slice_get l i ≡ Some p)) same (f.0, f.1, slice_get_read ps (length ps) i p refl f.0 read)

pub reach_at : (b : Tables) (m k i : ℕ) (p : Place) (t : Bool) → m < b.members → lookup_by number_of b.commands.0 k ≡ slice_get b.commands.0 i → slice_get b.commands.0 i ≡ Some p → names p.address.set m ≡ t → reach (view_tables b) m k ≡ demand t NoDestination (Ok (view_open p))
reach_at b m k i p t inside found at to =
    ap (λ x. demand x NoMember (destined m ((view_tables b).table k))) (lt-ltb m b.members inside) ∙ (ap (λ x. destined m (mapped view_open x)) (found ∙ at) ∙ ap (λ x. cond x (Ok (view_open p)) (Err NoDestination)) to)

-- What was asked of the place that was read.
pub asked : (p q : Place) (m n : ℕ) (r t : Bool) → p ≡ q → n ≡ m → m < 16 → r ≡ (ltb n 16 && names q.address.set n) → r ≡ t → names p.address.set m ≡ t
asked p q m n r t same member within says is =
    ap (λ x. names x.address.set m) same ∙ (ap (names q.address.set) (sym member) ∙ (ap (λ x. x && names q.address.set n) (sym (lt-ltb n 16 (omega arith))) ∙ (sym says ∙ is)))
