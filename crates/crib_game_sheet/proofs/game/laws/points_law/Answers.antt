use Rattle.crib_game_sheet.proofs.GameLawProofs.{hands_add_up, reasons_add_up}
use Rattle.crib_game_sheet.proofs.PeggedPoints.{pegged_law}
use Rattle.crib_game_sheet.proofs.ReasonsAdded.{reasons_added_law}
use Rattle.crib_game_sheet.proofs.game.laws.points_law.Goals as goal

pub returns : goal.returns
returns c = record { reasons = reasons_add_up; hands = hands_add_up; added = reasons_added_law; pegged = pegged_law }
