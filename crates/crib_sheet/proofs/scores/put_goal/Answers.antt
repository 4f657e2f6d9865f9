use Rattle.std.proofs.Common.{rules}
use Rattle.crib_run.proofs.Printing.{as_text, more}
use Rattle.crib_sheet.proofs.scores.put_goal.Goals as goal

pub returns-in-Holes : goal.returns-in-Holes
returns-in-Holes g c = rw c.in-Holes.is (as_text (more c.put-in-Holes.ensures c.put_small.ensures) (search rules))
