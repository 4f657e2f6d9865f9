use Rattle.std.proofs.Common.{◌≤◌, List, [], ◌∷◌, ◌++◌, length, sym, ap, subst, ◌∙◌}
use Rattle.crib_know.specs.Knowledge.{Knowledge}
use Rattle.crib_game.specs.declared.section.game.Game.{Game}
use Rattle.crib_players.specs.Laws.{longer}
use Rattle.crib_why.specs.Private.Search.{RefutesWith, orders, own_count}
use Rattle.crib_why.proofs.FewGames.{some_order}
use Rattle.crib_why.proofs.Ended.{refutes_ended}
use Rattle.crib_why.proofs.SureAfter.{sure_if_reached}
use Rattle.crib_why.proofs.search.refute_ended.Goals as goal

pub returns-in_default-clause-right : goal.returns-in_default-clause-right
returns-in_default-clause-right g c =
    sure_if_reached c.args.problem.now c.requires.knows.setup c.args.act.now
    (sym (ap (λ (k : Knowledge). k.round.asked) c.requires.knows.knowledge) ∙ c.requires.over)
    (rw c.in_default.is at c.missed_game.ensures)

pub returns-in-Ok-clause-right : goal.returns-in-Ok-clause-right
returns-in-Ok-clause-right g c =
    let problem = c.args.problem.now in
    let act = c.args.act.now in
    subst (RefutesWith problem act.side act.what)
    (sym (c.in-Ok.ensures.items ∙ ap (λ (games : List Game). games ++ c.in-Some.game ∷ []) c.new-games.ensures.items))
    (refutes_ended problem act.side act.what c.in-Some.game (rw c.in-Some.is at c.missed_game.ensures))

pub returns-in-Ok-clause-few : goal.returns-in-Ok-clause-few
returns-in-Ok-clause-few g c =
    subst (λ (games : List Game). length games ≤ orders (own_count (longer c.args.problem.now c.args.act.now)))
    (sym (c.in-Ok.ensures.items ∙ ap (λ (games : List Game). games ++ c.in-Some.game ∷ []) c.new-games.ensures.items)) (some_order _)
