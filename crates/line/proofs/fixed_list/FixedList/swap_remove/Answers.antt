use Rattle.std.proofs.Common.{arith}
use Rattle.line.proofs.FixedLists.{count, last_moved}
use Rattle.line.proofs.fixed_list.FixedList.swap_remove.Goals as goal

pub returns : goal.returns
returns g c last at =
    let l = c.self.inside in
    let fits = count l.places l.len c.args.self.now c.self.view_is (omega (arith, c.self.invariant)) in
    last_moved l.places l.len c.args.self.now c.self.view_is (omega (arith, c.self.invariant)) c.args.place last c.index-self-self.result (omega (arith, c.requires)) at
