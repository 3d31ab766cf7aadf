-- The first command with the number is the one that a look-up finds.
use Rattle.std.proofs.Common.{rules, ◌≡◌, ◌≢◌, ℕ, List, Some, None, Option}
use Rattle.std.proofs.lemmas.Iterator.{IsFirst-from_position, YieldsList-from_slice}
use borrow.Author.Tests.{tests}
use Rattle.open_commands.specs.declared.parts.OpenCommand.{OpenCommand}
use Rattle.open_commands.specs.Places.{FoundAt}
use Rattle.open_commands.specs.Views.{number_of}
use Rattle.open_commands.proofs.Keyed.{IsFirstWith, first_found, first_missed}
use Rattle.open_commands.proofs.table.place_of.Goals as goal

first : (c : goal.After-position) → IsFirstWith number_of c.args.commands.now c.args.number c.position.result
first c =
    IsFirst-from_position _ _ _ (λ x. number_of x ≡ c.args.number) (λ x. number_of x ≢ c.args.number) c.position.ensures.ran (YieldsList-from_slice c.args.commands.now cc) (λ x q k. search (rules, tests)) (λ x q k. search (rules, tests))

found : (commands : List OpenCommand) (number : ℕ) (r : Option ℕ) → IsFirstWith number_of commands number r → FoundAt commands number r
found commands number None h = first_found number_of commands number None h
found commands number (Some place) h = first_found number_of commands number (Some place) h

pub returns-clause-found : goal.returns-clause-found
returns-clause-found c = found c.args.commands.now c.args.number c.position.result (first c)

pub returns-clause-first : goal.returns-clause-first
returns-clause-first c = first_missed number_of c.args.commands.now c.args.number c.position.result (first c)
