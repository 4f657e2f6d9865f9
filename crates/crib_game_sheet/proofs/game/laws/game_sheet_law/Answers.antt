use Rattle.crib_game_sheet.proofs.GamesOfSheets.{sheets_have_one_game}
use Rattle.crib_game_sheet.proofs.game.laws.game_sheet_law.Goals as goal

pub returns : goal.returns
returns c = sheets_have_one_game
