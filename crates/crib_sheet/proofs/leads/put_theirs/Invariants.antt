use Rattle.std.proofs.Common.{take, flat_map}
use Rattle.crib_run.specs.Prints.{Prints}
use Rattle.crib_sheet.specs.LeadsText.{their_line}
use Rattle.crib_sheet.proofs.leads.put_theirs.Given as goal

-- what is put so far
abbrev pub invariant-loop-lead : goal.invariant-loop-lead
invariant-loop-lead g l = Prints (flat_map their_line (take l.lead-index l.leads)) (g.P.Page.stand l.initial.page) (g.P.Page.stand l.page)
