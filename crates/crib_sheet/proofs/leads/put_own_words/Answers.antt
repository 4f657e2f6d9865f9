use Rattle.crib_run.proofs.Printing.{more}
use Rattle.crib_sheet.proofs.leads.put_own_words.Goals as goal

pub returns-in-Sure : goal.returns-in-Sure
returns-in-Sure g c = rw c.in-Sure.is (more c.put.ensures c.put_nodes.ensures)

pub returns-in-Reached : goal.returns-in-Reached
returns-in-Reached g c = rw c.in-Reached.is c.put-in-Reached.ensures
