use Rattle.std.proofs.Common.{flat_map, take, codes, ◌++◌}
use Rattle.crib_cards.specs.declared.moves.Act.{Act}
use Rattle.crib_run.specs.Prints.{Prints}
use Rattle.crib_sheet.specs.Scores.{turn_text}
use Rattle.crib_sheet.proofs.scores.put_more_turns.Given as goal

-- what is put so far
abbrev pub invariant-loop-act : goal.invariant-loop-act
invariant-loop-act g l =
    Prints (flat_map (λ (act : Act). codes ", " ++ turn_text act) (take l.act-index l.acts)) (g.P.Page.stand l.initial.page) (g.P.Page.stand l.page)
