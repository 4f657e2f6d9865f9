use Rattle.std.proofs.Common.{take, flat_map}
use Rattle.crib_text.specs.Spelling.{line_text}
use Rattle.crib_problem.specs.Spelling.{act_line}
use Rattle.crib_run.specs.Prints.{Prints}
use Rattle.crib_sheet.proofs.refutation.put_acts.Given as goal

-- what is put so far
abbrev pub invariant-loop-act : goal.invariant-loop-act
invariant-loop-act g l =
    Prints (flat_map (λ act. line_text (act_line act)) (take l.act-index l.acts)) (g.P.Page.stand l.initial.page) (g.P.Page.stand l.page)
