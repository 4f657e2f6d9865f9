use Rattle.std.proofs.Common.{ap}
use Rattle.crib_play.specs.History.{Theirs}
use Rattle.crib_know.proofs.OwnCalls.{knows_as}
use Rattle.crib_know.proofs.know.Know.saw.Goals as goal

pub returns-in-Seen : goal.returns-in-Seen
returns-in-Seen c = λ problem history knows. knows_as _ problem history _ _ (ap Theirs c.in-Seen.is) (c.saw_play.ensures problem history knows)

pub returns-in-Go : goal.returns-in-Go
returns-in-Go c = λ problem history knows. knows_as _ problem history _ _ (ap Theirs c.in-Go.is) (c.saw_go.ensures problem history knows)
