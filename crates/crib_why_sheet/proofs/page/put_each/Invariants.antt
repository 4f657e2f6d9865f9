use Rattle.std.proofs.Common.{take, flat_map}
use Rattle.crib_run.specs.Prints.{Prints}
use Rattle.crib_why_sheet.specs.WhyText.{line_text}
use Rattle.crib_why_sheet.proofs.page.put_each.Given as goal

abbrev pub invariant-loop-line : goal.invariant-loop-line
invariant-loop-line g l =
    Prints (flat_map (line_text l.plays l.helds) (take l.line-index l.lines)) (g.P.Page.stand l.initial.page) (g.P.Page.stand l.page)
