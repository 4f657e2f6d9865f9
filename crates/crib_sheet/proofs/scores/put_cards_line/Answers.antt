use Rattle.std.proofs.Common.{rules}
use Rattle.crib_run.proofs.Printing.{as_text, more}
use Rattle.crib_sheet.specs.Scores.{cards_line}
use Rattle.crib_sheet.proofs.scores.put_cards_line.Goals as goal

pub returns : goal.returns
unfolding cards_line
returns g c =
    as_text (more (more (more (more (more (more (more (more (more (more c.put.ensures c.put_cards.ensures) c.put-2.ensures) c.put_cards-2.ensures)
    c.put-3.ensures)
    c.put_card.ensures) c.put-4.ensures) c.put_side.ensures) c.put-5.ensures) c.put_goal.ensures) c.put-6.ensures)
    (search rules)
