use Rattle.std.proofs.Common.{take}
use Rattle.crib_run.specs.Prints.{Prints}
use Rattle.crib_sheet.specs.Beaten.{ranks_text}
use Rattle.crib_sheet.proofs.tally.put_ranks.Given as goal

-- what is put so far
abbrev pub invariant-loop-rank : goal.invariant-loop-rank
invariant-loop-rank g l = Prints (ranks_text (take l.rank-index l.ranks)) (g.P.Page.stand l.initial.page) (g.P.Page.stand l.page)
