use Rattle.std.proofs.Common.{rules}
use Rattle.crib_game_sheet.proofs.CountedCards.{run_is_longest}
use Rattle.crib_game_sheet.proofs.game.shows.is_run.Goals as goal

pub returns : goal.returns
returns c = search (rules, run_is_longest c.args.ranks.now)
