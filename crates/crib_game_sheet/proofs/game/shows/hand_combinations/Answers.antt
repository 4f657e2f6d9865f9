use Rattle.std.proofs.Common.{sum_by, ap, ◌∙◌}
use Rattle.crib_game_sheet.specs.GameShow.{points_of}
use Rattle.crib_game_sheet.proofs.CombinationPoints.{hand_sum}
use Rattle.crib_game_sheet.proofs.game.shows.hand_combinations.Goals as goal

pub returns-clause-points : goal.returns-clause-points
returns-clause-points c = ap (sum_by points_of) c.counted_combinations.ensures ∙ hand_sum c.args.cards.now c.args.starter c.told-cards
