use Rattle.std.proofs.Common.{rules}
use Rattle.crib_run.proofs.Printing.{as_text, more}
use Rattle.crib_game_sheet.proofs.heading.put_how_many.Goals as goal

pub returns-then-number-ne1 : goal.returns-then-number-ne1
returns-then-number-ne1 g c =
    as_text (more (more (more c.put_small.ensures c.put.ensures) c.put-2.ensures) c.put-then-number-ne1.ensures) (search rules)

pub returns-else-number-ne1 : goal.returns-else-number-ne1
returns-else-number-ne1 g c = as_text (more (more c.put_small.ensures c.put.ensures) c.put-2.ensures) (search rules)
