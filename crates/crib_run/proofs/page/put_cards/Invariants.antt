use Rattle.std.proofs.Common.{take, flat_map}
use Rattle.crib_run.specs.Pieces.{spaced_card}
use Rattle.crib_run.specs.Prints.{Prints}
use Rattle.crib_run.proofs.page.put_cards.Given as goal

-- what is put so far
abbrev pub invariant-loop-card : goal.invariant-loop-card
invariant-loop-card g l = Prints (flat_map (spaced_card) (take l.card-index l.cards)) (g.P.Page.stand l.initial.page) (g.P.Page.stand l.page)
