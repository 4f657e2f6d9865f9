use Rattle.std.proofs.Common.{sym, ◌∙◌}
use Rattle.std.proofs.lemmas.Bool.{not-true}
use Rattle.crib_bound.proofs.AllPlayers.{suits}
use Rattle.crib_bound.proofs.players.is_for_all_players.Goals as goal

pub returns-in-Opponent-clause-players : goal.returns-in-Opponent-clause-players
returns-in-Opponent-clause-players c = λ reaches.
    suits c.args.problem.now c.target-target.ensures.setup (sym c.dealer.ensures ∙ c.in-Opponent.is, sym c.is_to_stop.ensures ∙ not-true _ reaches)
