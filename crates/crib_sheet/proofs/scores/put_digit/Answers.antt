use Rattle.std.proofs.Common.{rules}
use Rattle.crib_run.proofs.Printing.{as_text, more}
use Rattle.crib_sheet.proofs.scores.put_digit.Goals as goal

pub returns-else-score-least : goal.returns-else-score-least
returns-else-score-least g c = as_text (more c.put-else-score-least.ensures c.put_small.ensures) (search rules)
