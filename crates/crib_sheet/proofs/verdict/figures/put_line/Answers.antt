use Rattle.std.proofs.Common.{◌≡◌, ◌-◌, ◌∙◌, length, arith, rules}
use Rattle.crib_run.proofs.Printing.{as_text, more}
use Rattle.crib_sheet.specs.PlanBeaten.{grouped}
use Rattle.crib_sheet.proofs.PlanBeatenLines.{deals_line_is}
use Rattle.crib_sheet.proofs.verdict.figures.put_line.Goals as goal

pub returns : goal.returns
returns g c =
    let figure : c.as_slice.result.now ≡ grouped c.args.deals = c.as_slice.ensures.value ∙ c.grouped-figure.ensures.items in
    let gap : c.saturating_sub-2.result ≡ 11 - length c.as_slice.result.now = search (rules, arith) in
    as_text (more (more (more (more (more (more c.put.ensures c.put-2.ensures) c.put-3.ensures) c.put-4.ensures) c.put-5.ensures) c.put-6.ensures)
    c.put-7.ensures)
    (deals_line_is c.args.front.now c.as_slice.result.now c.args.word.now c.args.deals c.saturating_sub.result c.saturating_sub-2.result figure
    (omega arith) gap)
