use Rattle.crib_plan_sheet.proofs.PlanPlays.{finds_what_is_stated, played_as_followed, sure_is_reached}
use Rattle.crib_plan_sheet.proofs.laws.play_law.Goals as goal

pub returns : goal.returns
returns c = record { finds = finds_what_is_stated; follows = played_as_followed; sure = sure_is_reached }
