use Rattle.crib_check.proofs.opponent_turns.OpponentTurns.new.Goals as goal

pub returns : goal.returns
returns g c = λ key is. c.new.ensures key is.1
