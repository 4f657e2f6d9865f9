use Rattle.crib_run.proofs.Printing.{more}
use Rattle.crib_game_sheet.specs.GameText.{sheet_of}
use Rattle.crib_game_sheet.proofs.game.text.put_game_sheet.Goals as goal

pub returns : goal.returns
unfolding sheet_of
returns g c = more c.put_heading.ensures c.put_played.ensures
