use Rattle.std.proofs.Common.{length}
use Rattle.crib_game_sheet.proofs.game.acts.+put_acts.Given as goal

abbrev pub decreases-put_acts : goal.decreases-put_acts
decreases-put_acts g l = length l.rows.now
