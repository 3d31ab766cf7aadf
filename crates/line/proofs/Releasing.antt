-- A command that has run everywhere leaves: the last one in use takes its place, and no other number is touched.
use Rattle.std.proofs.Common.{◌≡◌, ℕ, ◌-◌, Bool, true, false, length, Some, sym, refl, subst}
use Rattle.std.specs.List.{slice_get}
use Rattle.line.specs.declared.parts.Tables.{Tables}
use Rattle.open_commands.specs.declared.parts.OpenCommand.{OpenCommand as Place}
use Rattle.line.specs.Tables.{removed_at}
use Rattle.line.specs.Calls.{released_by}

pub released : (b : Tables) (i : ℕ) (b' : Tables) (t : Bool) → t ≡ true → ((p : Place) → slice_get b.commands.0 ((length b.commands.0) - 1) ≡ Some p → b' ≡ removed_at b i p) → released_by t b i b'
released b i b' t e h = subst (λ x. released_by x b i b') (sym e) h

pub kept : (b : Tables) (i : ℕ) (t : Bool) → t ≡ false → released_by t b i b
kept b i t e = subst (λ x. released_by x b i b) (sym e) refl
