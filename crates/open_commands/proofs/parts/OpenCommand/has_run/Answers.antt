use Rattle.std.proofs.Common.{rules, ◌≡◌, true, false, refl}
use Rattle.std.proofs.lemmas.Iterator.{cases_from_all, YieldsList-from_range}
use borrow.Author.Tests.{tests}
use Rattle.open_commands.specs.Views.{view_open, done_at}
use Rattle.open_commands.proofs.Destinations.{all_done}
use Rattle.open_commands.proofs.parts.OpenCommand.has_run.Goals as goal

pub returns : goal.returns
returns c =
    let o = view_open c.args.self.now in
    all_done o c.all.result (cases_from_all _ _ _ (λ q. done_at o q ≡ true) (λ q. done_at o q ≡ false) c.all.ensures.ran (YieldsList-from_range 0 16 16 (cc) refl) (λ q f k. search (rules, tests)) (λ q f k. search (rules, tests)))
