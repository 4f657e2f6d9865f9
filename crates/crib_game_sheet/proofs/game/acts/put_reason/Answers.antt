use Rattle.std.proofs.Common.{rules}
use Rattle.crib_run.proofs.Printing.{as_text, more}
use Rattle.crib_game_sheet.specs.GameText.{reason_text}
use Rattle.crib_game_sheet.proofs.game.acts.put_reason.Goals as goal

pub returns : goal.returns
unfolding reason_text
returns g c = as_text (more (more c.put.ensures c.put-2.ensures) c.put_small.ensures) (search rules)
