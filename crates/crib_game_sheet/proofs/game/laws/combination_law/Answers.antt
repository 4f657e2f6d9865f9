use Rattle.crib_game_sheet.proofs.DifferentCombinations.{hand_list_law, crib_list_law}
use Rattle.crib_game_sheet.proofs.game.laws.combination_law.Goals as goal

pub returns : goal.returns
returns c = record { hands = hand_list_law; cribs = crib_list_law }
