use Rattle.std.proofs.Common.{flat_map, take}
use Rattle.crib_run.specs.Prints.{Prints}
use Rattle.crib_sheet.specs.Scores.{digit_text}
use Rattle.crib_sheet.proofs.scores.put_each_digit.Given as goal

-- what is put so far
abbrev pub invariant-loop-score : goal.invariant-loop-score
invariant-loop-score g l = Prints (flat_map (digit_text l.least l.place) (take l.score-index l.scores)) (g.P.Page.stand l.initial.page) (g.P.Page.stand l.page)
