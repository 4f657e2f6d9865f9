use Rattle.std.proofs.Common.{length}
use Rattle.crib_game_sheet.proofs.game.shows.+put_jack.Given as goal

abbrev pub decreases-put_jack : goal.decreases-put_jack
decreases-put_jack l = length l.cards.now
