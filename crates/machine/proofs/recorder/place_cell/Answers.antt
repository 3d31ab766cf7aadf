use Rattle.std.proofs.Common.{rules, ◌≡◌, ◌%◌, slice_index, None, sym, ◌∙◌}
use Rattle.std.specs.Option.{MatchOption}
use Rattle.machine.specs.Numbers.{numbers}
use Rattle.machine.specs.Entries.{no_cell, place_cell}
use Rattle.machine.proofs.recorder.place_cell.Goals as goal

pub returns-in_err-place : goal.returns-in_err-place
returns-in_err-place c = c.from_residual.ensures ∙ sym (no_cell c.args.places.now c.args.i c.in_err-place.ensures.lookup.3)

pub returns : goal.returns
returns c =
    let shows : MatchOption c.in_ok-place.place.now (c.map_or.result ≡ 0) (λ command. c.map_or.result ≡ slice_index (numbers command) (c.args.i % 3)) = search rules in
    let f = c.in_ok-place.ensures.lookup.3 in
    place_cell c.args.places.now c.args.i c.in_ok-place.place.now c.map_or.result f.0 (sym (f.1 None)) shows
