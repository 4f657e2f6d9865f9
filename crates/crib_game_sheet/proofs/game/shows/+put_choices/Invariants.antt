use Rattle.std.proofs.Common.{length}
use Rattle.crib_game_sheet.proofs.game.shows.+put_choices.Given as goal

abbrev pub decreases-put_choices : goal.decreases-put_choices
decreases-put_choices l = length l.left.now
