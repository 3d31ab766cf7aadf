use Rattle.std.proofs.Common.{◌≡◌, ◌<◌, ◌≤◌, ◌∙◌, false, eqb, length, ℕ, sym, refl, arith}
use Rattle.std.proofs.lemmas.Bool.{eqb-true, eqb-false}
use Rattle.line.proofs.BookSend.{send_full, send_answer}
use Rattle.line.proofs.OneProof.{carried}
use Rattle.line.proofs.book.Book.send.Goals as goal

room : (n : ℕ) → false ≡ eqb n 32 → n ≤ 32 → n < 32
room n e l = let ne = eqb-false n 32 (sym e) in omega (arith, ne)

pub returns-then-is_full : goal.returns-then-is_full
returns-then-is_full c =
    let many : length c.args.self.now.tables.commands.0 ≡ 32 = eqb-true _ _ (sym c.is_full.ensures.full ∙ c.if-is_full.true) in
    (send_full c.args.self.now.tables (carried c.args.self.now.tables c.args.self.now.good) c.args.sender c.args.set c.args.command c.in_ok-address.address c.in_ok-address.ensures c.if-self.false (omega arith), refl)

pub invariant_of-self : goal.invariant_of-self
invariant_of-self c =
    record { good = ∣ (send_answer c.args.self.now.tables (carried c.args.self.now.tables c.args.self.now.good) c.args.sender c.args.set c.args.command c.in_ok-address.address c.in_ok-address.ensures c.if-self.false (room _ c.if-is_full.ensures.full c.if-is_full.ensures.within) c.push.new.self c.new-2.result c.new-2.ensures c.push.ensures).1 ∣₁ }

pub returns : goal.returns
returns c =
    (send_answer c.args.self.now.tables (carried c.args.self.now.tables c.args.self.now.good) c.args.sender c.args.set c.args.command c.in_ok-address.address c.in_ok-address.ensures c.if-self.false (room _ c.if-is_full.ensures.full c.if-is_full.ensures.within) c.push.new.self c.new-2.result c.new-2.ensures c.push.ensures).0
