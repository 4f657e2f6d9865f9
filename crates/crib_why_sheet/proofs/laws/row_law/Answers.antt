use Rattle.crib_why_sheet.proofs.WhyRowsOfGames.{rows_of_games}
use Rattle.crib_why_sheet.proofs.laws.row_law.Goals as goal

pub returns : goal.returns
returns c = rows_of_games
