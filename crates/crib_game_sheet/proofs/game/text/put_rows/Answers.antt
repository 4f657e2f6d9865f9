use Rattle.std.proofs.Common.{rules}
use Rattle.crib_run.proofs.Printing.{as_text}
use Rattle.crib_game_sheet.proofs.game.text.put_rows.Goals as goal

pub returns : goal.returns
returns g c = as_text (c.put_acts.ensures) (search rules)
