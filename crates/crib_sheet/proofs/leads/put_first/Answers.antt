use Rattle.crib_run.proofs.Printing.{more}
use Rattle.crib_sheet.proofs.leads.put_first.Goals as goal

pub returns-in-Play : goal.returns-in-Play
returns-in-Play g c = rw c.in-Play.is (more c.put.ensures c.put_card.ensures)
