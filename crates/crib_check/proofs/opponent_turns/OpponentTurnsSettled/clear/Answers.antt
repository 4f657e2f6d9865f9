use Rattle.crib_check.proofs.opponent_turns.OpponentTurnsSettled.clear.Goals as goal

pub returns : goal.returns
returns g c = λ key is. c.clear.ensures key is.1
