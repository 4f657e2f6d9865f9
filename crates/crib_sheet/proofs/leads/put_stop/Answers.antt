use Rattle.crib_run.proofs.Printing.{more}
use Rattle.crib_sheet.proofs.leads.put_stop.Goals as goal

pub returns-in-Some : goal.returns-in-Some
returns-in-Some g c = rw c.in-Some.is (more c.put.ensures c.put_stop_figure.ensures)
