use Rattle.std.proofs.Common.{◌<◌, ◌≤◌, ◌∙◌, refl, arith}
use Rattle.open_commands.specs.Views.{number_of}
use Rattle.open_commands.proofs.Keyed.{lookup_place}
use Rattle.line.proofs.OneProof.{carried}
use Rattle.line.proofs.Reaching.{placed, reach_at, asked}
use Rattle.line.proofs.book.Book.reach.Goals as goal

pub returns-then-not-is_for : goal.returns-then-not-is_for
returns-then-not-is_for c =
    let b = c.args.self.now.tables in
    let p = c.index-commands-place.result in
    let few : b.members ≤ 16 = (carried b c.args.self.now.good).sound.few in
    let within : c.args.member < 16 = omega arith in
    let w = placed c.as_slice-commands.result.now b.commands.0 c.args.number c.in_ok-place.place c.place_of.result p c.as_slice-commands.ensures c.in_ok-place.ensures.ok_part c.place_of.ensures.found c.index-commands-place.is in
    reach_at b c.args.member c.args.number c.in_ok-place.place p _ c.if-member-self.false w.1 w.2 (asked p p _ _ _ _ refl c.from.ensures within c.is_for.ensures c.if-not-is_for.true)

pub returns : goal.returns
returns c =
    let b = c.args.self.now.tables in
    let p = c.index-commands-place.result in
    let few : b.members ≤ 16 = (carried b c.args.self.now.good).sound.few in
    let within : c.args.member < 16 = omega arith in
    let w = placed c.as_slice-commands.result.now b.commands.0 c.args.number c.in_ok-place.place c.place_of.result p c.as_slice-commands.ensures c.in_ok-place.ensures.ok_part c.place_of.ensures.found c.index-commands-place.is in (
      p,
      w.2,
      (lookup_place number_of b.commands.0 c.args.number p (w.1 ∙ w.2)).2,
      reach_at b c.args.member c.args.number c.in_ok-place.place p _ c.if-member-self.false w.1 w.2 (asked p p _ _ _ _ refl c.from.ensures within c.is_for.ensures c.if-not-is_for.false),
      w.0,
      c.if-member-self.false,
    )
