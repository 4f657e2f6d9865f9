use Rattle.std.proofs.Common.{take, flat_map}
use Rattle.crib_run.specs.Prints.{Prints}
use Rattle.crib_sheet.specs.PlanHead.{turn_line}
use Rattle.crib_sheet.proofs.verdict.head.put_turns.Given as goal

-- what is put so far
abbrev pub invariant-loop-act : goal.invariant-loop-act
invariant-loop-act g l = Prints (flat_map (turn_line l.dealer) (take l.act-index l.acts)) (g.P.Page.stand l.initial.page) (g.P.Page.stand l.page)
