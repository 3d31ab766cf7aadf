-- The next of a script's records.
use Rattle.std.proofs.Common.{◌≡◌, ℕ, List, subst}
use Rattle.runner.specs.declared.records.Record.{Record}
use Rattle.runner.specs.declared.records.Records.{Records}
use Rattle.runner.specs.Following.{Follows}

pub follows : {script : List ℕ} {s : Records} {r : Record} {t : Records} → s.script.bytes.now ≡ script → Follows s.script.bytes.now s r t → Follows script s r t
follows {s = s} {r} {t} same f = subst (λ b. Follows b s r t) same f
