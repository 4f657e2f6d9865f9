use Rattle.std.proofs.Common.{arith, ◌∙◌, ◌+◌, ◌<◌, ap}
use Rattle.std.proofs.lemmas.List.{take_rest}
use Rattle.crib_message.specs.Place.{spot_behind}
use Rattle.crib_message.proofs.PlaceLemmas.{in_announced, in_first_lines, in_later_one}
use Rattle.crib_message.proofs.scene.+spot_behind.Goals.{else-number-first-via-then-number-first+else-number-first-2, else-number-first-via-else-number-first}
use Rattle.crib_message.proofs.scene.+spot_behind.Goals as goal

pub returns-then-number-first-2 : goal.returns-then-number-first-2
returns-then-number-first-2 t c =
    let first = c.first_lines-first.result in
    let count = c.count_at-then-number-first-2.result in
    let behind : c.args.before + first + count < c.args.line =
    omega (arith, c.if-number-first.true, c.if-number-first-2.true, c.count_at.ensures, c.count_at-then-number-first-2.ensures) in
    c.spot_behind.ensures ∙ ap (spot_behind c.args.input.now c.args.line (c.args.before + first + count)) (take_rest c.args.sections.now 1)
    ∙ in_later_one c.args.input.now c.args.line c.args.before first count c.args.sections.now
    c.in-len1-up.len_at_least c.first_lines-first.ensures.lines c.count_at-then-number-first-2.ensures behind

pub returns : goal.returns
returns t c =
    elim c.else-number-first.branch [
      | else-number-first-via-then-number-first+else-number-first-2 w ↦
          in_announced c.args.input.now c.args.line c.args.before c.first_lines-first.result w.count_at.result c.args.sections.now
          c.in-len1-up.len_at_least c.requires c.first_lines-first.ensures.lines w.count_at.ensures w.if-number-first-2.false
      | else-number-first-via-else-number-first w ↦
          in_first_lines c.args.input.now c.args.line c.args.before c.first_lines-first.result c.args.sections.now
          c.in-len1-up.len_at_least c.requires c.first_lines-first.ensures.lines w.if-number-first.false
    ]
