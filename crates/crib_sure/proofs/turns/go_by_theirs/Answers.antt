use Rattle.crib_play.specs.History.{Theirs}
use Rattle.crib_sure.proofs.PositionHistories.{stands_with}
use Rattle.crib_sure.proofs.turns.go_by_theirs.Goals as goal

pub returns : goal.returns
returns g c = λ problem history stands.
    stands_with stands (Theirs c.args.letter.now) _ _ (c.saw.ensures problem history stands.knows)
    c.place_after-key.ensures.place tt
