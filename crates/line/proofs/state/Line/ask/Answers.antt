use Rattle.line.specs.Books.{view_line}
use Rattle.line.proofs.Asking.{leads_on}
use Rattle.line.proofs.state.Line.ask.Goals as goal

pub returns-clause-ordered : goal.returns-clause-ordered
returns-clause-ordered g c =
    leads_on g.M.Machine.kind g.met.M.Machine.lawful (view_line c.args.self.now.book) c.args.call c.args.station.now.member _ c.make.result _ _ c.make.ensures.steps
