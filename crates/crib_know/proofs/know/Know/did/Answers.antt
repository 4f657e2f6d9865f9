use Rattle.std.proofs.Common.{ap}
use Rattle.crib_play.specs.History.{Own}
use Rattle.crib_know.proofs.OwnCalls.{knows_as}
use Rattle.crib_know.proofs.know.Know.did.Goals as goal

pub returns-in-Card : goal.returns-in-Card
returns-in-Card c = λ problem history knows. knows_as _ problem history _ _ (ap Own c.in-Card.is) (c.own_play.ensures problem history knows)

pub returns-in-Go : goal.returns-in-Go
returns-in-Go c = λ problem history knows. knows_as _ problem history _ _ (ap Own c.in-Go.is) (c.own_go.ensures problem history knows)
