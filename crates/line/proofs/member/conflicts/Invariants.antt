use Rattle.std.proofs.Common.{◌≡◌, false, take}
use Rattle.std.specs.List.{list_any}
use Rattle.line.proofs.member.conflicts.Given as goal

abbrev pub invariant-loop-held : goal.invariant-loop-held
invariant-loop-held g l = list_any (λ r. g.M.Machine.kind.conflict r.command l.command) (take l.held-index l.remembered) ≡ false
